use Rattle.std.proofs.Common.{ap, sym, is_some}
use Rattle.av_state.proofs.state.State.has_form.Goals as goal

pub returns-in-NoLevel : goal.returns-in-NoLevel
returns-in-NoLevel c = ap is_some (sym c.in-NoLevel.ensures)
