use Rattle.std.proofs.Common.{arith}
use Rattle.av_cells.specs.Rule.{can_enter, has_hole}
use Rattle.av_cells.specs.Turn.{onward}
use Rattle.av_water.proofs.StepByStep.{step_as}
use Rattle.av_water.proofs.turning.go_on.Goals as goal

pub returns-then-not-is_wet-2 : goal.returns-then-not-is_wet-2
unfolding onward can_enter has_hole
returns-then-not-is_wet-2 g c = step_as c.spread.ensures (omega arith) (grind arith)
