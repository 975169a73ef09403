use Rattle.av_exchange.proofs.Exchanged.{leaves_old_or_new}
use Rattle.av_exchange.proofs.laws.a_crash_leaves_old_or_new.Goals as goal

pub returns : goal.returns
returns c = leaves_old_or_new
