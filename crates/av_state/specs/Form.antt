-- Working definitions. No public clause cites them.
-- The three forms that a state may take when it is read.
use Rattle.std.specs.Prelude.{◌≡◌, ◌<◌, Some, None, slice_get}
use Rattle.av_state.specs.declared.state.Form.{Form}
use Rattle.av_state.specs.declared.state.Form.TheVariants.{Fixed, NoLevel, Same}
use Rattle.av_state.specs.BlockState.{BlockState, meant}
use Rattle.av_state.specs.StateList.{first_states}

abbrev pub IsForm : BlockState → Form → Type 0
IsForm s (Fixed n) = (n < 10) × (meant s ≡ slice_get first_states n)
IsForm s NoLevel = meant s ≡ None
IsForm s Same = meant s ≡ Some s
