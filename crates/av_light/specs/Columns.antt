-- The nine chunks around one. Working definitions: no public clause cites them.
use Rattle.std.specs.Prelude.{ℕ, ◌%◌, ◌/◌, pos, negsuc, ◌+ℤ◌, ◌≤ℤ◌}
use Rattle.av_types.specs.declared.position.ChunkPos.{ChunkPos}

-- one of them, from the corner of the least coordinates on, x within z
abbrev pub column : ChunkPos → ℕ → ChunkPos
column c n = record { x = c.x +ℤ pos (n % 3); z = c.z +ℤ pos (n / 3) }

-- so far from the ends of the coordinates' range that all nine have coordinates
pub record IsCorner (c : ChunkPos) : Type 0 where
  pub west : negsuc 1073741824 ≤ℤ c.x
  pub east : c.x ≤ℤ pos 1073741823
  pub north : negsuc 1073741824 ≤ℤ c.z
  pub south : c.z ≤ℤ pos 1073741823
