-- The numbers of the entries that came.
use Rattle.std.proofs.Common.{◌≡◌, length, take}
use Rattle.av_tags.specs.Shape.{each}
use Rattle.av_tags.specs.View.{views}
use Rattle.av_state.specs.Table.{states}
use Rattle.av_section.specs.Palette.{state_in}
use Rattle.av_section.specs.Known.{AreKnown}
use Rattle.av_section.proofs.known.known_numbers.Given as goal

abbrev pub invariant-loop-entry : goal.invariant-loop-entry
invariant-loop-entry l = record {
  known : AreKnown (states l.table) (each state_in (views (take l.entry-index l.entries))) l.numbers.items;
  many : length l.numbers.items ≡ l.entry-index;
}
