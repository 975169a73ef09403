use Rattle.std.proofs.Common.{map, sym, subst, rules}
use Rattle.std.specs.Prelude.{option_map, IfSome}
use Rattle.av_image.specs.SavingSteps.{payload_items}
use Rattle.av_image.specs.Making.{IsMade}
use Rattle.av_image.proofs.PayloadLists.{first_more, first_all}
use Rattle.av_dealt.proofs.AtIndices.{at_indices-set}
use Rattle.av_image.proofs.writing.dealt.in_order.Goals as goal

pub loop-index-preserved : goal.loop-index-preserved
loop-index-preserved c =
    let j = c.args.job.now in
    let inv = c.loop-index.invariant in
    record {
      made = first_more j.world.now j.kinds.now j.lights.now j.elapsed j.region.now c.loop-index.payloads.items c.push.new.self.items c.loop-index.index c.in_ok-payload.payload c.in_ok-push.ensures.items inv.made c.in_ok-payload.ensures;
      long = search rules;
      own = at_indices-set (IsMade j) c.loop-index.bytes.items c.loop-index.index c.take.new.self inv.own (subst (λ o. IfSome o (IsMade j c.loop-index.index)) (sym c.take.ensures.after) tt);
    }

pub returns : goal.returns
returns c =
    let j = c.args.job.now in
    first_all j.world.now j.kinds.now j.lights.now j.elapsed j.region.now (map (option_map payload_items) c.loop-index.payloads.items) c.loop-index.index 1024
    c.loop-index.auto.index-end c.loop-index-test.false c.loop-index.invariant.made
