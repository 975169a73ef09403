use Rattle.av_play.proofs.Interleaving.{unshared_commute}
use Rattle.av_play.proofs.laws.unshared_entries_commute.Goals as goal

pub returns : goal.returns
returns s c = unshared_commute
