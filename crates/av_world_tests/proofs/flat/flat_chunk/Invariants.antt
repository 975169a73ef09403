use Rattle.std.proofs.Common.{◌≡◌, length, All}
use Rattle.av_world_tests.specs.Flat.{IsCalmSlot}
use Rattle.av_world_tests.proofs.flat.flat_chunk.Given as goal

abbrev pub invariant-loop-index : goal.invariant-loop-index
invariant-loop-index l = record { count : length l.sections.items ≡ l.index; calm : All IsCalmSlot l.sections.items }
