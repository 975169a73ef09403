use Rattle.av_land.proofs.Idle.{ticks_idly}
use Rattle.av_land.proofs.idle_tick.Goals as goal

pub returns : goal.returns
returns c = ticks_idly
