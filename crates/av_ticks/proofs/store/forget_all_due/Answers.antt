-- The entry's position is gone too, if it is due.
use Rattle.av_ticks.specs.Entries.{is_due}
use Rattle.av_ticks.specs.Held.{holds}
use Rattle.av_ticks.proofs.Index.{forgotten_next}
use Rattle.av_ticks.proofs.store.forget_all_due.Goals as goal

pub loop-entry-preserved : goal.loop-entry-preserved
loop-entry-preserved c = λ p.
    forgotten_next (is_due c.args.now) p c.args.entries.now c.loop-entry.entry-index _ _ _ (holds c.args.index.now p) c.loop-entry-test.true (c.forget_if_due.ensures p) (c.loop-entry.invariant p)
