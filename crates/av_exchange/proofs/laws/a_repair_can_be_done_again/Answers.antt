use Rattle.av_exchange.proofs.Unwritten.{repair_leaves_unwritten}
use Rattle.av_exchange.proofs.laws.a_repair_can_be_done_again.Goals as goal

pub returns : goal.returns
returns c = repair_leaves_unwritten
