-- Some of the four sides of a block.
use Rattle.std.specs.Prelude.{◌≡◌, ℕ, Bool}
use Rattle.av_types.specs.declared.position.Pos.{Pos}
use Rattle.av_types.specs.declared.water.Direction.{Direction}
use Rattle.av_types.specs.declared.water.Direction.TheVariants.{North, South, West, East}
use Rattle.av_cells.specs.declared.kind.Kind.{Kind}
use Rattle.av_cells.specs.Positions.{step}
use Rattle.av_cells.specs.Rule.{can_enter}
use Rattle.av_cells.specs.Turn.{is_chosen}
use Rattle.av_cells.specs.World.{World}
use Rattle.av_drop.specs.declared.search.Sides.{Sides}

-- a side is one of them
abbrev pub has_side : Sides → Direction → Bool
has_side s North = s.north
has_side s South = s.south
has_side s West = s.west
has_side s East = s.east

-- they are those that can be entered
pub record AreWays (k : ℕ → Kind) (w : World) (p : Pos) (s : Sides) : Type 0 where
  pub at : (d : Direction) → has_side s d ≡ can_enter k w (step p d)

-- they are the chosen ones
pub record AreChosen (k : ℕ → Kind) (w : World) (p : Pos) (s : Sides) : Type 0 where
  pub at : (d : Direction) → has_side s d ≡ is_chosen k w p d
