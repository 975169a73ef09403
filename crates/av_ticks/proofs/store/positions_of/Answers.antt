-- The position of the entry is there too.
use Rattle.av_ticks.proofs.Index.{noted_next}
use Rattle.av_ticks.proofs.store.positions_of.Goals as goal

pub loop-entry-preserved : goal.loop-entry-preserved
loop-entry-preserved c = λ p. noted_next p c.args.entries.now c.loop-entry.entry-index _ _ _ c.loop-entry-test.true (c.in_ok-put.ensures.ok p) (c.loop-entry.invariant p)
