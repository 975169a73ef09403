use Rattle.av_world_tests.specs.Flat.{IsPlain}
use Rattle.av_inter_tests.proofs.parts.poured.Given as goal

abbrev pub invariant-loop-pos : goal.invariant-loop-pos
invariant-loop-pos l = IsPlain l.world
