use Rattle.av_play.proofs.Interleaving.{gives_tick}
use Rattle.av_play.proofs.laws.every_play_gives_the_tick.Goals as goal

pub returns : goal.returns
returns s c = gives_tick
