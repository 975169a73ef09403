use Rattle.av_exchange.proofs.Repaired.{repair_keeps}
use Rattle.av_exchange.proofs.laws.a_repair_may_be_cut_off.Goals as goal

pub returns : goal.returns
returns c = repair_keeps
