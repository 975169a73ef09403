use Rattle.av_play.proofs.Settled.{settled_whole}
use Rattle.av_play.proofs.laws.settled_parts_give_the_tick.Goals as goal

pub returns : goal.returns
returns c = settled_whole
