use Rattle.av_world_tests.specs.Flat.{IsPlain}
use Rattle.av_inter_tests.proofs.drawn.drawn_world.Given as goal

abbrev pub invariant-loop-number : goal.invariant-loop-number
invariant-loop-number l = IsPlain l.world

abbrev pub invariant-loop-number-2 : goal.invariant-loop-number-2
invariant-loop-number-2 l = IsPlain l.world
