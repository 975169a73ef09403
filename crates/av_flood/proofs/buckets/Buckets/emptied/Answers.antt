use Rattle.std.proofs.Common.{arith, ◌<◌, length}
use Rattle.av_flood.proofs.Queues.{emptied_more, emptied_all}
use Rattle.av_flood.proofs.buckets.Buckets.emptied.Goals as goal

pub loop-level-init : goal.loop-level-init
loop-level-init c = record { long = c.args.self.sixteen; none = λ n l. absurd (omega arith) }

pub loop-level-preserved : goal.loop-level-preserved
loop-level-preserved c =
    let inv = c.loop-level.invariant in
    let xs = c.loop-level.levels.items in
    let less : c.loop-level.level < length xs = omega (arith, inv.long, c.loop-level.levels.ok.0, c.loop-level-test.true) in
    record {
      long = inv.long;
      none = emptied_more (λ v. v.items) xs c.loop-level.level c.clear.new.self less c.clear.ensures.items inv.none;
    }

pub returns : goal.returns
returns c =
    let inv = c.loop-level.invariant in
    emptied_all (λ v. v.items) c.loop-level.levels.items c.loop-level.level (omega (arith, inv.long, c.loop-level.levels.ok.0, c.loop-level-test.false)) inv.none
