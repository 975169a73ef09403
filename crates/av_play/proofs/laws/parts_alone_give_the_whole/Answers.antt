use Rattle.av_play.proofs.Interleaving.{gathers_whole}
use Rattle.av_play.proofs.laws.parts_alone_give_the_whole.Goals as goal

pub returns : goal.returns
returns s c = gathers_whole
