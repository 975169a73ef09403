use Rattle.av_play.proofs.Settled.{settled_new}
use Rattle.av_play.proofs.laws.settled_parts_can_be_appended.Goals as goal

pub returns : goal.returns
returns c = settled_new
