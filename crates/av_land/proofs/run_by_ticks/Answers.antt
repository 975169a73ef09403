use Rattle.av_land.proofs.Idle.{run_by_ticks}
use Rattle.av_land.proofs.run_by_ticks.Goals as goal

pub returns : goal.returns
returns c = run_by_ticks
