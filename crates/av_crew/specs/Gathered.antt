-- A tick's parts brought together, before what they made is appended. Of public clauses that of `turn_parts` alone cites them.
use Rattle.std.specs.Prelude.{◌≡◌, ℕ, List, IsTrue}
use Rattle.std.specs.List.{AllByRecursion}
use Rattle.av_types.specs.declared.tick.Entry.{Entry}
use Rattle.av_types.specs.declared.tick.Made.{Made}
use Rattle.av_cells.specs.declared.kind.Kind.{Kind}
use Rattle.av_cells.specs.World.{World, Lists}
use Rattle.av_play.specs.Play.{in_order, entries_of}
use Rattle.av_play.specs.Waiting.{AreNew, appended}

-- with these entries at the ends of their chunks' lists, the new blocks are what turning all entries one after the other leaves;
-- and they can be appended
pub record AreBroughtTogether (k : ℕ → Kind) (now : ℕ) (entries : List Entry) (old : World) (lists : Lists) (new : World) (made : List Made) : Type 0 where
  pub whole : appended new lists (entries_of made) ≡ in_order k now entries old lists
  pub fresh : AreNew new (entries_of made)
  pub loaded : AllByRecursion (λ m. IsTrue (new.loaded m.entry.pos)) made
