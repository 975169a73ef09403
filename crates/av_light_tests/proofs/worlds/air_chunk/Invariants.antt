use Rattle.std.proofs.Common.{◌≡◌, length}
use Rattle.av_light_tests.proofs.Air.{AreIdle}
use Rattle.av_light_tests.proofs.worlds.air_chunk.Given as goal

abbrev pub invariant-loop-made : goal.invariant-loop-made
invariant-loop-made l = record { count : length l.sections.items ≡ l.made; idle : AreIdle l.sections.items }
