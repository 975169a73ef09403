use Rattle.av_types.specs.declared.water.Direction.TheVariants.{North, South, West, East}
use Rattle.av_water.proofs.plan.plan_of.Goals as goal

pub planned_side-requires-clause-chosen : goal.planned_side-requires-clause-chosen
planned_side-requires-clause-chosen g c = c.nearest_sides-chosen.ensures.at North

pub planned_side-requires-2-clause-chosen : goal.planned_side-requires-2-clause-chosen
planned_side-requires-2-clause-chosen g c = c.nearest_sides-chosen.ensures.at South

pub planned_side-requires-3-clause-chosen : goal.planned_side-requires-3-clause-chosen
planned_side-requires-3-clause-chosen g c = c.nearest_sides-chosen.ensures.at West

pub planned_side-requires-4-clause-chosen : goal.planned_side-requires-4-clause-chosen
planned_side-requires-4-clause-chosen g c = c.nearest_sides-chosen.ensures.at East
