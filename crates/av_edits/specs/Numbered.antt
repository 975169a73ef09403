-- Edits with states by their numbers.
use Rattle.std.specs.Prelude.{ℕ, List, map}
use Rattle.av_cells.specs.Sets.{Set}
use Rattle.av_edits.specs.declared.edit.Edit.{Edit}

abbrev pub number_set : Edit → Set ℕ
number_set e = record { tick = e.tick; pos = e.pos; what = e.number }

abbrev pub number_sets : List Edit → List (Set ℕ)
number_sets = map number_set
