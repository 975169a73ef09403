-- The states of the entries that came.
use Rattle.std.proofs.Common.{◌≡◌, Some, take, map}
use Rattle.av_tags.specs.Shape.{each}
use Rattle.av_tags.specs.View.{views}
use Rattle.av_state.specs.States.{state_of}
use Rattle.av_section.specs.Palette.{state_in}
use Rattle.av_section.proofs.palette.entry_states.Given as goal

abbrev pub invariant-loop-entry : goal.invariant-loop-entry
invariant-loop-entry l = each state_in (views (take l.entry-index l.entries)) ≡ Some (map state_of l.found.items)
