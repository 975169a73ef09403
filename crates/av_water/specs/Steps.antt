-- Working definitions: what the steps of a turn leave. No public clause cites them.
use Rattle.std.specs.Prelude.{◌≡◌, ℕ, ◌+◌, List}
use Rattle.av_types.specs.declared.position.Pos.{Pos}
use Rattle.av_types.specs.declared.water.Direction.{Direction}
use Rattle.av_types.specs.declared.tick.Entry.{Entry}
use Rattle.av_cells.specs.Positions.{step, below}
use Rattle.av_cells.specs.Turn.{Change, change}
use Rattle.av_cells.specs.Wakes.{Appends}
use Rattle.av_cells.specs.World.{World, Lists, Site}
use Rattle.av_water.specs.Ready.{IsReadyForTurn}

-- a turn of p may set q
pub data MaySet (p q : Pos) : Type 0 where
  itself : q ≡ p → MaySet p q
  beneath : q ≡ below p → MaySet p q
  beside : (d : Direction) → q ≡ step p d → MaySet p q

-- What a step of a turn of p leaves: the change that it is, its entries at the ends of their lists, and the same site and loaded
-- blocks. It makes n entries at most, so that what was ready for some and n more is ready for some.
pub record IsTurnStep {S : Type 0} (world : S → World) (lists : S → Lists) (site : S → Site) (room : S → Pos → ℕ) (can_set : S → Pos → ℕ → Type 0)
    (count : ℕ) (p : Pos) (n : ℕ) (does : Change → Change) (old : S) (old_made : List Entry) (new : S) (new_made : List Entry) : Type 0 where
  pub changed : change (world new) new_made ≡ does (change (world old) old_made)
  pub listed : Appends old_made new_made (lists old) (lists new)
  pub same_site : site new ≡ site old
  pub same_loaded : (world new).loaded ≡ (world old).loaded
  pub still_ready : (adds : ℕ) → IsReadyForTurn count (world old) (room old) (can_set old) old_made p (adds + n)
      → IsReadyForTurn count (world new) (room new) (can_set new) new_made p adds
