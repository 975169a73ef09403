use Rattle.std.proofs.Common.{arith, ◌∙◌}
use Rattle.av_cells.proofs.Wakes.{HasKinds-same, SameStates-trans, HaveRoom-next, Appends-trans, woken_all-next}
use Rattle.av_cells.proofs.awake.wake_all.Goals as goal

pub loop-position-preserved : goal.loop-position-preserved
loop-position-preserved g c =
    record {
      kinds = HasKinds-same _ _ _ c.wake.ensures.states c.loop-position.invariant.kinds;
      room = HaveRoom-next _ _ _ _ c.wake.ensures.states c.wake.ensures.room _ _ c.loop-position-test.true c.loop-position.invariant.room;
      changed = woken_all-next _ _ _ _ _ _ _ _ c.loop-position-test.true c.wake.ensures.changed c.loop-position.invariant.changed;
      listed = Appends-trans _ _ _ _ _ _ c.loop-position.invariant.listed c.wake.ensures.listed;
      site = c.wake.ensures.site ∙ c.loop-position.invariant.site;
      states = SameStates-trans _ _ _ c.loop-position.invariant.states c.wake.ensures.states;
      length = omega arith;
      kept = λ q. let a = c.loop-position.invariant.kept q in let b = c.wake.ensures.room q in omega arith;
      prepared = λ q n h. c.wake.ensures.prepared q n (c.loop-position.invariant.prepared q n h);
    }
