-- A tick of a land: its edits, and then the entries that are due.
use Rattle.std.specs.Prelude.{ℕ, List}
use Rattle.av_types.specs.declared.tick.Entry.{Entry}
use Rattle.av_cells.specs.declared.kind.Kind.{Kind}
use Rattle.av_land.specs.Land.{Land, cells_of}
use Rattle.av_cells.specs.Sets.{Set}
use Rattle.av_land.specs.Tick.{edited, due_entries, without_due}
use Rattle.av_play.specs.Play.{Outcome}

-- after the edits of tick now, with the due entries taken out
abbrev pub opened : (ℕ → Kind) → ℕ → List (Set ℕ) → Land ℕ → Land ℕ
opened k now es w = without_due now (edited k now es w)

-- the entries that were taken out, in the order of the tick
abbrev pub due_in : (ℕ → Kind) → ℕ → List (Set ℕ) → Land ℕ → List Entry
due_in k now es w = due_entries now (edited k now es w)

-- its blocks and lists
abbrev pub outcome_of : Land ℕ → Outcome
outcome_of w = record { world = cells_of w; lists = w.lists }
