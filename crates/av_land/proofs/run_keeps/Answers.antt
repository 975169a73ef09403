use Rattle.av_land.proofs.Kept.{run_keeps}
use Rattle.av_land.proofs.run_keeps.Goals as goal

pub returns : goal.returns
returns c = run_keeps
