-- Neighbours of a block, and the blocks that a turn can see.
use Rattle.std.specs.Prelude.{pos, negsuc, ◌+ℤ◌, ◌-ℤ◌, ◌≤ℤ◌, List, [], ◌∷◌}
pub use Rattle.av_types.specs.Positions.{same_pos, same_chunk, same_section}
use Rattle.av_types.specs.declared.position.Pos.{Pos}
use Rattle.av_types.specs.declared.water.Direction.{Direction}
use Rattle.av_types.specs.declared.water.Direction.TheVariants.{North, South, West, East}

-- the block next to it
abbrev pub step : Pos → Direction → Pos
step p North = record { x = p.x; y = p.y; z = p.z -ℤ pos 1 }
step p South = record { x = p.x; y = p.y; z = p.z +ℤ pos 1 }
step p West = record { x = p.x -ℤ pos 1; y = p.y; z = p.z }
step p East = record { x = p.x +ℤ pos 1; y = p.y; z = p.z }

abbrev pub below : Pos → Pos
below p = record { x = p.x; y = p.y -ℤ pos 1; z = p.z }

abbrev pub above : Pos → Pos
above p = record { x = p.x; y = p.y +ℤ pos 1; z = p.z }

-- the block and those next to it, in the order in which they are woken
abbrev pub around : Pos → List Pos
around p = p ∷ below p ∷ above p ∷ step p North ∷ step p South ∷ step p West ∷ step p East ∷ []

-- something holds of the block and of those next to it
pub record ForAround (P : Pos → Type 0) (p : Pos) : Type 0 where
  pub itself : P p
  pub beneath : P (below p)
  pub overhead : P (above p)
  pub beside : (d : Direction) → P (step p d)

-- something holds of the blocks that a turn may set: the block, the one below and the four beside it
pub record ForTurned (P : Pos → Type 0) (p : Pos) : Type 0 where
  pub itself : P p
  pub beneath : P (below p)
  pub beside : (d : Direction) → P (step p d)

-- q lies in the reach of p: what a turn of p may read or change
pub record InReach (p q : Pos) : Type 0 where
  pub west : (p.x -ℤ pos 5) ≤ℤ q.x
  pub east : q.x ≤ℤ (p.x +ℤ pos 5)
  pub low : (p.y -ℤ pos 2) ≤ℤ q.y
  pub high : q.y ≤ℤ (p.y +ℤ pos 1)
  pub north : (p.z -ℤ pos 5) ≤ℤ q.z
  pub south : q.z ≤ℤ (p.z +ℤ pos 5)

-- where a loaded block can lie: in a region from -60,000 to 60,000, and in the range of heights that a world may have
pub record IsNearOrigin (p : Pos) : Type 0 where
  pub x_low : negsuc 30719999 ≤ℤ p.x
  pub x_high : p.x ≤ℤ pos 30720511
  pub y_low : negsuc 1023 ≤ℤ p.y
  pub y_high : p.y ≤ℤ pos 1023
  pub z_low : negsuc 30719999 ≤ℤ p.z
  pub z_high : p.z ≤ℤ pos 30720511

-- so far from the ends of the coordinates' range that each neighbour has coordinates
pub record IsInner (p : Pos) : Type 0 where
  pub x_low : negsuc 2147483646 ≤ℤ p.x
  pub x_high : p.x ≤ℤ pos 2147483646
  pub y_low : negsuc 2147483646 ≤ℤ p.y
  pub y_high : p.y ≤ℤ pos 2147483646
  pub z_low : negsuc 2147483646 ≤ℤ p.z
  pub z_high : p.z ≤ℤ pos 2147483646
