use Rattle.av_exchange.proofs.Beside.{beside_keeps}
use Rattle.av_exchange.proofs.laws.steps_beside_change_nothing.Goals as goal

pub returns : goal.returns
returns c = beside_keeps
