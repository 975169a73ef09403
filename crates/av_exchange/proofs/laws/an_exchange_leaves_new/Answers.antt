use Rattle.av_exchange.proofs.Exchanged.{leaves_new}
use Rattle.av_exchange.proofs.laws.an_exchange_leaves_new.Goals as goal

pub returns : goal.returns
returns c = leaves_new
