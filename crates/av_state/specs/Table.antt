-- The states of a table.
use Rattle.std.specs.Prelude.{List, map}
use Rattle.av_state.specs.declared.table.StateTable.{StateTable}
use Rattle.av_state.specs.BlockState.{BlockState}
use Rattle.av_state.specs.States.{state_of}

-- in the order of their numbers
abbrev pub states : StateTable → List BlockState
states t = map state_of t.states.items
