-- Working definitions: what is known of the four sides of a block. No public clause cites them.
use Rattle.std.specs.Prelude.{◌≡◌, ℕ, ◌<◌, IsTrue, Option, Some}
use Rattle.av_types.specs.Water.{IsProper}
use Rattle.av_types.specs.declared.position.Pos.{Pos}
use Rattle.av_types.specs.declared.water.Direction.{Direction}
use Rattle.av_types.specs.declared.water.Direction.TheVariants.{North, South, West, East}
use Rattle.av_types.specs.declared.water.Wet.{Wet}
use Rattle.av_cells.specs.declared.kind.Kind.{Kind}
use Rattle.av_cells.specs.Positions.{step}
use Rattle.av_cells.specs.Rule.{wet_at}
use Rattle.av_cells.specs.Turn.{planned}
use Rattle.av_cells.specs.World.{World}

-- something holds of each direction and what was found that way
pub record ForSides {A : Type 0} (P : Direction → A → Type 0) (n s w e : A) : Type 0 where
  pub north : P North n
  pub south : P South s
  pub west : P West w
  pub east : P East e

-- how wet the side that way is
pub record IsWetSide (k : ℕ → Kind) (w : World) (p : Pos) (d : Direction) (wet : Wet) : Type 0 where
  pub is : wet ≡ wet_at k w (step p d)
  pub proper : IsProper wet

-- what a side is to be set to: the number is one of air or water, and the side is loaded
pub record IsPlanFor (k : ℕ → Kind) (w : World) (p : Pos) (d : Direction) (plan : Option ℕ) : Type 0 where
  pub is : plan ≡ planned k w p d
  pub loaded : (n : ℕ) → plan ≡ Some n → IsTrue (w.loaded (step p d))
  pub water : (n : ℕ) → plan ≡ Some n → n < 10
