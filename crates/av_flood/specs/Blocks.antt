-- Where loaded blocks can lie. A region from -60,000 to 60,000 has the blocks from -30,720,000 to 30,720,511.
use Rattle.std.specs.Prelude.{ℕ, ◌≡◌, ◌<◌, ◌%◌, ◌/◌, ◌-ℤ◌, pos, negsuc, ◌≤ℤ◌, ◌<ℤ◌, ◌+ℤ◌, ◌*ℤ◌, ◌*◌, List, IsTrue, Contains}
use Rattle.av_types.specs.Positions.{chunk_of}
use Rattle.av_types.specs.declared.position.Pos.{Pos}
use Rattle.av_types.specs.declared.position.ChunkPos.{ChunkPos}
use Rattle.av_types.specs.declared.position.Height.{Height}
use Rattle.av_flood.specs.Light.{Terrain}

-- in the height, and in a region within the limits
pub record IsNear (h : Height) (p : Pos) : Type 0 where
  pub west : negsuc 30719999 ≤ℤ p.x
  pub east : p.x ≤ℤ pos 30720511
  pub north : negsuc 30719999 ≤ℤ p.z
  pub south : p.z ≤ℤ pos 30720511
  pub low : (pos 16 *ℤ h.min_section) ≤ℤ p.y
  pub high : p.y <ℤ (pos 16 *ℤ h.min_section +ℤ pos (16 * h.sections))

-- far from the ends of the coordinates' range
pub record IsFarFromEnds (p : Pos) : Type 0 where
  pub west : negsuc 2147483646 ≤ℤ p.x
  pub east : p.x ≤ℤ pos 2147483646
  pub north : negsuc 2147483646 ≤ℤ p.z
  pub south : p.z ≤ℤ pos 2147483646
  pub low : negsuc 2147483646 ≤ℤ p.y
  pub high : p.y ≤ℤ pos 2147483646

-- the chunks in which loaded blocks can lie, and some more
pub record MayBeLoaded (c : ChunkPos) : Type 0 where
  pub west : negsuc 1920030 ≤ℤ c.x
  pub east : c.x ≤ℤ pos 1920031
  pub north : negsuc 1920030 ≤ℤ c.z
  pub south : c.z ≤ℤ pos 1920031

-- one of the nine chunks that a board lies in
abbrev pub column_at : ChunkPos → ℕ → ChunkPos
column_at c n = record { x = c.x -ℤ pos 1 +ℤ pos (n % 3); z = c.z -ℤ pos 1 +ℤ pos (n / 3) }

-- the list of each of these nine has the blocks in it that give light
pub record AreKnown (t : Terrain) (lamps : ChunkPos → List Pos) (c : ChunkPos) : Type 0 where
  pub known : (n : ℕ) → n < 9 → (p : Pos) → chunk_of p ≡ column_at c n → IsTrue (t.loaded p) → 0 < t.emission p → Contains (lamps (column_at c n)) p
