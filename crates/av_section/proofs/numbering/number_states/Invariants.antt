-- The entries that came are numbered.
use Rattle.std.proofs.Common.{take, map}
use Rattle.av_state.specs.States.{state_of}
use Rattle.av_state.specs.Table.{states}
use Rattle.av_section.specs.Numbered.{AreNumbered}
use Rattle.av_section.proofs.numbering.number_states.Given as goal

abbrev pub invariant-loop-entry : goal.invariant-loop-entry
invariant-loop-entry l = AreNumbered (map state_of (take l.entry-index l.entries)) (states l.initial.table) (states l.table) l.numbers.items
