-- Working definitions: the blocks to which walks of so many steps come. No public clause cites them.
use Rattle.std.specs.Prelude.{◌≡◌, ℕ, ◌+◌, ◌<◌, ◌&&◌, Bool, true, false}
use Rattle.av_types.specs.declared.position.Pos.{Pos}
use Rattle.av_types.specs.declared.water.Direction.{Direction}
use Rattle.av_types.specs.declared.water.Direction.TheVariants.{North, South, West, East}
use Rattle.av_cells.specs.declared.kind.Kind.{Kind}
use Rattle.av_cells.specs.Positions.{step}
use Rattle.av_cells.specs.Rule.{can_pass, can_drop}
use Rattle.av_cells.specs.World.{World}
use Rattle.av_drop.specs.Board.{spot, is_on, AreBeside, IsWithin}
use Rattle.av_drop.specs.Sides.{has_side}
use Rattle.av_drop.specs.declared.around.Seen.{Seen}
use Rattle.av_drop.specs.declared.around.Around.{Around}
use Rattle.av_drop.specs.declared.board.Board.{Board}
use Rattle.av_drop.specs.declared.search.Sides.{Sides}

-- what is known of a block is so
pub record IsSeen (k : ℕ → Kind) (w : World) (q : Pos) (s : Seen) : Type 0 where
  pub passes_is : s.passes ≡ can_pass k w q
  pub drops_is : s.drops ≡ can_drop k w 0 q

-- what is known of each block that was read is so
pub record AreSeen (k : ℕ → Kind) (w : World) (p : Pos) (around : Around) : Type 0 where
  pub passes_are : (i : ℕ) → is_on around.known i ≡ true → is_on around.passes i ≡ can_pass k w (spot p i)
  pub drops_are : (i : ℕ) → is_on around.known i ≡ true → is_on around.drops i ≡ can_drop k w 0 (spot p i)
  pub no_passes : (i : ℕ) → is_on around.known i ≡ false → is_on around.passes i ≡ false
  pub no_drops : (i : ℕ) → is_on around.known i ≡ false → is_on around.drops i ≡ false

-- a marked block with a walk of m steps to a drop
pub record Leads (k : ℕ → Kind) (w : World) (p : Pos) (m : ℕ) (board : Board) : Type 0 where
  pub square : ℕ
  pub marked : is_on board square ≡ true
  pub drops : can_drop k w m (spot p square) ≡ true

-- the marked blocks are those to which n steps lead from s: the walks to a drop of n steps and more go on from these
pub record IsFront (k : ℕ → Kind) (w : World) (p s : Pos) (n : ℕ) (board : Board) : Type 0 where
  pub within : (i r : ℕ) → r + n ≡ 4 → is_on board i ≡ true → IsWithin r i
  pub passes : (i : ℕ) → is_on board i ≡ true → can_pass k w (spot p i) ≡ true
  pub joins : (i m : ℕ) → is_on board i ≡ true → can_drop k w m (spot p i) ≡ true → can_drop k w (n + m) s ≡ true
  pub leads : (m : ℕ) → can_drop k w (n + m) s ≡ true → Leads k w p m board

-- one step on from the marked blocks, over blocks that a walk may pass; and whether one of these drops
pub record IsNext (k : ℕ → Kind) (w : World) (p : Pos) (old new : Board) (drops : Bool) : Type 0 where
  pub beside : Board
  pub are_beside : AreBeside old beside
  pub inside : (i : ℕ) → is_on new i ≡ (is_on beside i && can_pass k w (spot p i))
  pub found : drops ≡ true → Leads k w p 0 new
  pub missed : drops ≡ false → (i : ℕ) → is_on new i ≡ true → can_drop k w 0 (spot p i) ≡ false

-- the fronts of the sides that can be entered
pub record AreFronts (k : ℕ → Kind) (w : World) (p : Pos) (ways : Sides) (n : ℕ) (north south west east : Board) : Type 0 where
  pub north_is : ways.north ≡ true → IsFront k w p (step p North) n north
  pub south_is : ways.south ≡ true → IsFront k w p (step p South) n south
  pub west_is : ways.west ≡ true → IsFront k w p (step p West) n west
  pub east_is : ways.east ≡ true → IsFront k w p (step p East) n east

-- those of some sides that have a walk of n steps to a drop
pub record AreDropping (k : ℕ → Kind) (w : World) (p : Pos) (ways : Sides) (n : ℕ) (found : Sides) : Type 0 where
  pub at : (d : Direction) → has_side found d ≡ (has_side ways d && can_drop k w n (step p d))

-- none of some sides has a walk to a drop of fewer than n steps
pub record HaveNone (k : ℕ → Kind) (w : World) (p : Pos) (ways : Sides) (n : ℕ) : Type 0 where
  pub at : (d : Direction) (m : ℕ) → m < n → has_side ways d ≡ true → can_drop k w m (step p d) ≡ false
