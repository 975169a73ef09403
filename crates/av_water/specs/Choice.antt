-- The directions to which a block spreads, in the rule's own words.
use Rattle.std.specs.Prelude.{ℕ, Some, None, ◌≤◌, ◌⊎◌, IsTrue}
use Rattle.av_types.specs.declared.position.Pos.{Pos}
use Rattle.av_types.specs.declared.water.Direction.{Direction}
use Rattle.av_cells.specs.declared.kind.Kind.{Kind}
use Rattle.av_cells.specs.Positions.{step}
use Rattle.av_cells.specs.Rule.{can_enter, IsDrop}
use Rattle.av_cells.specs.World.{World}

-- a side's drop is n, and no side that can be entered has a nearer one
pub record HasNearest (k : ℕ → Kind) (w : World) (p : Pos) (d : Direction) (n : ℕ) : Type 0 where
  pub drop : IsDrop k w (step p d) (Some n)
  pub nearest : (e : Direction) (m : ℕ) → IsTrue (can_enter k w (step p e)) → IsDrop k w (step p e) (Some m) → n ≤ m

-- no side that can be entered has a drop
abbrev pub HasNoDrops : (ℕ → Kind) → World → Pos → Type 0
HasNoDrops k w p = (e : Direction) → IsTrue (can_enter k w (step p e)) → IsDrop k w (step p e) None

-- a direction is chosen: its side can be entered, and its drop is the least among such sides, or none of them has one
pub record IsChosen (k : ℕ → Kind) (w : World) (p : Pos) (d : Direction) : Type 0 where
  pub enterable : IsTrue (can_enter k w (step p d))
  pub best : ((n : ℕ) × HasNearest k w p d n) ⊎ HasNoDrops k w p
