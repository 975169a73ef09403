use Rattle.av_census.specs.Counting.{AreSlotCounts}
use Rattle.av_census.proofs.blocks.count_blocks.Given as goal

abbrev pub invariant-loop-index : goal.invariant-loop-index
invariant-loop-index l = AreSlotCounts l.slots l.numbers l.index l.counts.items
