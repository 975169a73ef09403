-- Working definitions: squares of a board of 11 by 11 blocks around a block, row by row from the north. No public clause cites them.
use Rattle.std.specs.Prelude.{◌≡◌, ℕ, ◌+◌, ◌-◌, ◌%◌, ◌/◌, ◌<◌, ◌≤◌, ◌==◌, pos, ◌+ℤ◌, ◌-ℤ◌, Bool, true}
use Rattle.std.specs.Int.{bit_at}
use Rattle.av_types.specs.declared.position.Pos.{Pos}
use Rattle.av_types.specs.declared.water.Direction.{Direction}
use Rattle.av_types.specs.declared.water.Direction.TheVariants.{North, South, West, East}
use Rattle.av_drop.specs.declared.board.Board.{Board}

-- the block at a square of the board
abbrev pub spot : Pos → ℕ → Pos
spot p i = record { x = p.x +ℤ pos (i % 11) -ℤ pos 5; y = p.y; z = p.z +ℤ pos (i / 11) -ℤ pos 5 }

-- at most 5 - n steps from the middle
pub record IsWithin (n i : ℕ) : Type 0 where
  pub south_east : i % 11 + i / 11 + n ≤ 15
  pub north_west : 5 + n ≤ i % 11 + i / 11
  pub north_east : i % 11 + n ≤ i / 11 + 5
  pub south_west : i / 11 + n ≤ i % 11 + 5

-- a square is marked
unfoldable pub is_on : Board → ℕ → Bool
is_on board i = bit_at board.bits i == 1

-- a marked square
pub record HasMark (board : Board) : Type 0 where
  pub square : ℕ
  pub bound : square < 128
  pub marked : is_on board square ≡ true

-- the square that lies in a direction from another
abbrev pub toward : ℕ → Direction → ℕ
toward i North = i - 11
toward i South = i + 11
toward i West = i - 1
toward i East = i + 1

-- a marked square, and the direction in which a square lies from it
pub record HasNeighbour (board : Board) (i : ℕ) : Type 0 where
  pub square : ℕ
  pub side : Direction
  pub marked : is_on board square ≡ true
  pub there : toward square side ≡ i

-- the squares beside the marked ones; of those in the outer rows not all
pub record AreBeside (board beside : Board) : Type 0 where
  pub from : (i : ℕ) → is_on beside i ≡ true → HasNeighbour board i
  pub to : (i : ℕ) (d : Direction) → 11 ≤ i → i < 110 → is_on board i ≡ true → is_on beside (toward i d) ≡ true
  pub bound : (i : ℕ) → is_on beside i ≡ true → i < 128

-- a square that is marked on both boards
pub record ShareSquare (a b : Board) : Type 0 where
  pub square : ℕ
  pub first : is_on a square ≡ true
  pub second : is_on b square ≡ true

-- the squares of the middle's sides
abbrev pub side_square : Direction → ℕ
side_square North = 49
side_square South = 71
side_square West = 59
side_square East = 61
