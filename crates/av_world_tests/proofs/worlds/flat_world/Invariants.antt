use Rattle.av_world_tests.specs.Flat.{IsPlain}
use Rattle.av_world_tests.proofs.worlds.flat_world.Given as goal

abbrev pub invariant-loop-at : goal.invariant-loop-at
invariant-loop-at l = IsPlain l.world
