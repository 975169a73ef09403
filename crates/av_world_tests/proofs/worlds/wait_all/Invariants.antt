use Rattle.av_world_tests.specs.Flat.{IsPlain}
use Rattle.av_world_tests.proofs.worlds.wait_all.Given as goal

abbrev pub invariant-loop-entry : goal.invariant-loop-entry
invariant-loop-entry l = IsPlain l.world
