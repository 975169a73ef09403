use Rattle.av_play.proofs.Interleaving.{gives_whole}
use Rattle.av_play.proofs.laws.every_play_gives_the_whole.Goals as goal

pub returns : goal.returns
returns s c = gives_whole
