use Rattle.std.proofs.Common.{refl}
use Rattle.av_state.proofs.table.StateTable.is_empty.Goals as goal

pub returns : goal.returns
returns c = refl
