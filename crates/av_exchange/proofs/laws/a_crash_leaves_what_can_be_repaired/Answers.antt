use Rattle.av_exchange.proofs.Unwritten.{leaves_unwritten}
use Rattle.av_exchange.proofs.laws.a_crash_leaves_what_can_be_repaired.Goals as goal

pub returns : goal.returns
returns c = leaves_unwritten
