use Rattle.av_land.proofs.Runs.{run_moved}
use Rattle.av_land.proofs.run_moves.Goals as goal

pub returns : goal.returns
returns c = run_moved
