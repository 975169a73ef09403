-- The block state that a `State` stands for.
use Rattle.av_state.specs.declared.state.State.{State}
use Rattle.av_state.specs.BlockState.{BlockState}
use Rattle.av_state.specs.Views.{properties_of}

abbrev pub state_of : State → BlockState
state_of s = record { name = s.name.items; properties = properties_of s.properties.items }
