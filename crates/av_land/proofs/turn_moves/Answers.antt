use Rattle.av_land.proofs.Turns.{turn_moved}
use Rattle.av_land.proofs.turn_moves.Goals as goal

pub returns : goal.returns
returns c = turn_moved
