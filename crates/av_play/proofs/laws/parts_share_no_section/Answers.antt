use Rattle.av_play.proofs.Interleaving.{share_nothing}
use Rattle.av_play.proofs.laws.parts_share_no_section.Goals as goal

pub returns : goal.returns
returns s c = share_nothing
