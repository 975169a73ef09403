-- What a refusal leaves of entries or edits that are taken one after the other.
use Rattle.std.specs.Prelude.{◌≡◌, ℕ, ◌<◌, List, length, take}
use Rattle.av_types.specs.declared.tick.Entry.{Entry}
use Rattle.av_cells.specs.declared.kind.Kind.{Kind}
use Rattle.av_land.specs.Land.{Land}
use Rattle.av_land.specs.Tick.{edited, turned_all}
use Rattle.av_edits.specs.declared.edit.Edit.{Edit}
use Rattle.av_edits.specs.Numbered.{number_sets}

-- some first entries, and not all, were turned in order, and nothing else was done
pub record AreTurnsBegun (k : ℕ → Kind) (now : ℕ) (entries : List Entry) (old new : Land ℕ) : Type 0 where
  pub count : ℕ
  pub fewer : count < length entries
  pub turned : new ≡ turned_all k now (take count entries) old

-- some first edits, and not all, were applied in order, those of other ticks without a change, and nothing else was done
pub record AreEditsBegun (k : ℕ → Kind) (now : ℕ) (edits : List Edit) (old new : Land ℕ) : Type 0 where
  pub count : ℕ
  pub fewer : count < length edits
  pub applied : new ≡ edited k now (number_sets (take count edits)) old
