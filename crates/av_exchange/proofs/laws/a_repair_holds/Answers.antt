use Rattle.av_exchange.proofs.Repaired.{repair_holds}
use Rattle.av_exchange.proofs.laws.a_repair_holds.Goals as goal

pub returns : goal.returns
returns c = repair_holds
