use Rattle.av_section.specs.Section.{CanSet}
use Rattle.av_world_tests.specs.Flat.{IsCalm}
use Rattle.av_world_tests.proofs.flat.lay_stone.Given as goal

abbrev pub invariant-loop-index : goal.invariant-loop-index
invariant-loop-index l = record { stone : CanSet l.section 10; calm : IsCalm l.section }
