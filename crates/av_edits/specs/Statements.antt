-- An edit as a line states it.
use Rattle.av_state.specs.BlockState.{BlockState}
use Rattle.av_state.specs.States.{state_of}
use Rattle.av_cells.specs.Sets.{Set}
use Rattle.av_edits.specs.declared.words.Statement.{Statement}

abbrev pub set_of : Statement → Set BlockState
set_of e = record { tick = e.tick; pos = e.pos; what = state_of e.state }
