use Rattle.std.proofs.Common.{◌≡◌, ◌+◌, map, take}
use Rattle.av_state.specs.StateList.{first_states}
use Rattle.av_state.specs.States.{state_of}
use Rattle.av_state.specs.Index.{IsIndex}
use Rattle.av_state.proofs.table.StateTable.new.Given as goal

abbrev pub invariant-loop-level : goal.invariant-loop-level
invariant-loop-level l = record {
  first : map state_of l.states.items ≡ take (l.level + 1) first_states;
  index : IsIndex (map state_of l.states.items) l.index;
}
