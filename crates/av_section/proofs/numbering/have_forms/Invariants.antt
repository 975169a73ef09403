-- Each entry that came has a form.
use Rattle.std.proofs.Common.{◌≡◌, true, take, map, is_some}
use Rattle.std.specs.List.{list_all}
use Rattle.av_state.specs.BlockState.{meant}
use Rattle.av_state.specs.States.{state_of}
use Rattle.av_section.proofs.numbering.have_forms.Given as goal

abbrev pub invariant-loop-entry : goal.invariant-loop-entry
invariant-loop-entry l = list_all (λ s. is_some (meant s)) (map state_of (take l.entry-index l.entries)) ≡ true
