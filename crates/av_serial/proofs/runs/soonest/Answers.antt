use Rattle.av_serial.proofs.RunSteps.{nothing_before}
use Rattle.av_serial.proofs.runs.soonest.Goals as goal

pub returns : goal.returns
returns c = nothing_before c.args.world.now c.soonest.result c.soonest.ensures.none
