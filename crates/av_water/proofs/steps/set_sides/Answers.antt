use Rattle.std.proofs.Common.{arith}
use Rattle.av_water.proofs.Readiness.{ready_less}
use Rattle.av_water.proofs.StepByStep.{step_then}
use Rattle.av_water.proofs.steps.set_sides.Goals as goal

pub set_planned_side-requires-2-clause-ready : goal.set_planned_side-requires-2-clause-ready
set_planned_side-requires-2-clause-ready g c =
    ready_less _ _ _ _ _ _ 21 7 (omega arith) (c.set_planned_side.ensures.still_ready 21 c.requires.ready)

pub set_planned_side-requires-3-clause-ready : goal.set_planned_side-requires-3-clause-ready
set_planned_side-requires-3-clause-ready g c =
    ready_less _ _ _ _ _ _ 14 7 (omega arith) ((step_then c.set_planned_side.ensures c.set_planned_side-2.ensures).still_ready 14 c.requires.ready)

pub set_planned_side-requires-4-clause-ready : goal.set_planned_side-requires-4-clause-ready
set_planned_side-requires-4-clause-ready g c =
    (step_then (step_then c.set_planned_side.ensures c.set_planned_side-2.ensures) c.set_planned_side-3.ensures).still_ready 7 c.requires.ready

pub returns : goal.returns
returns g c =
    step_then (step_then (step_then c.set_planned_side.ensures c.set_planned_side-2.ensures) c.set_planned_side-3.ensures) c.set_planned_side-4.ensures
