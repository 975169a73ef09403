-- A state that was found in a slice of a table's states.
use Rattle.std.proofs.Common.{◌≡◌, ℕ, List, map, Some, slice_get, sym, ap, ◌∙◌}
use Rattle.av_state.specs.declared.state.State.{State}
use Rattle.av_state.specs.BlockState.{BlockState}
use Rattle.av_state.specs.States.{state_of}
use Rattle.av_state.specs.StateList.{number_in, IsStateList}
use Rattle.av_state.proofs.Numbering.{number_in-state}

pub number_in-found : {read kept : List State} {s : BlockState} {n : ℕ} → read ≡ kept → IsStateList (map state_of kept) → slice_get (map state_of read) n ≡ Some s → number_in (map state_of kept) s ≡ Some n
number_in-found {read} {kept} {s} {n} e l there = number_in-state (map state_of kept) s n l (ap (λ xs. slice_get (map state_of xs) n) (sym e) ∙ there)
