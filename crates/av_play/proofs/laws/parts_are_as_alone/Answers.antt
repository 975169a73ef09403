use Rattle.av_play.proofs.Interleaving.{as_alone}
use Rattle.av_play.proofs.laws.parts_are_as_alone.Goals as goal

pub returns : goal.returns
returns s c = as_alone
