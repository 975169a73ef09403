use Rattle.av_land.proofs.Idle.{nothing_due_before}
use Rattle.av_land.proofs.due_times_rise.Goals as goal

pub returns : goal.returns
returns c = nothing_due_before
