use Rattle.std.proofs.Common.{◌≡◌, ◌≤◌, ◌⊎◌, arith, subst, pos}
use Rattle.av_types.specs.declared.tick.Entry.{Entry}
use Rattle.av_world.proofs.Soonest.{at_least_next, reached_next}
use Rattle.av_world.proofs.due.soonest_in.Goals as goal

pub loop-entry-preserved : goal.loop-entry-preserved
loop-entry-preserved c =
    let d : Entry = record { pos = record { x = pos 0; y = pos 0; z = pos 0 }; due = pos 0; priority = pos 0 } in
    let now = c.sooner-soonest.result in
    let a = c.sooner-soonest.ensures.one in let b = c.sooner-soonest.ensures.other in let l = c.loop-entry.invariant.low in
    record {
      low = omega (arith, a, l);
      none = at_least_next c.sooner-soonest.result c.loop-entry.soonest c.args.entries.now c.loop-entry.entry-index d c.loop-entry-test.true a (subst (λ n. c.sooner-soonest.result ≤ n) c.tick_of.ensures b) c.loop-entry.invariant.none;
      reached = reached_next c.args.most c.loop-entry.soonest now c.args.entries.now c.loop-entry.entry-index d c.loop-entry-test.true (subst (λ n. (now ≡ c.loop-entry.soonest) ⊎ (now ≡ n)) c.tick_of.ensures c.sooner-soonest.ensures.either) c.loop-entry.invariant.reached;
    }
