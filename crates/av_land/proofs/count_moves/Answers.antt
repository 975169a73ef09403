use Rattle.av_land.proofs.Runs.{count_moved}
use Rattle.av_land.proofs.count_moves.Goals as goal

pub returns : goal.returns
returns c = count_moved
