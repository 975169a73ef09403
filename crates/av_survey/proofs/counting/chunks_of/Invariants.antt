use Rattle.std.proofs.Common.{◌≤◌}
use Rattle.av_survey.specs.Counting.{AreChunksBelow}
use Rattle.av_survey.proofs.counting.chunks_of.Given as goal

abbrev pub invariant-loop-index : goal.invariant-loop-index
invariant-loop-index l = AreChunksBelow l.region.bytes.now l.index l.chunks × (l.chunks ≤ l.index)
