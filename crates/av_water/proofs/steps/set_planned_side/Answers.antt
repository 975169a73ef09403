use Rattle.av_water.specs.Steps.{MaySet}
use Rattle.av_water.proofs.steps.set_planned_side.Goals as goal

pub set_number-requires-clause-target : goal.set_number-requires-clause-target
set_number-requires-clause-target g c = MaySet.beside c.args.direction c.step.ensures
