use Rattle.av_play.proofs.Waiting.{turn_waits}
use Rattle.av_play.proofs.laws.turn_makes_pending_what_it_makes.Goals as goal

pub returns : goal.returns
returns c = turn_waits
