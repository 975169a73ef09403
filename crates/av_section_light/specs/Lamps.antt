-- The blocks of a chunk that give light.
use Rattle.std.specs.Prelude.{ℕ, ◌≡◌, ◌<◌, ◌≤ℤ◌, ◌+ℤ◌, pos, negsuc, List, Bool, false, IsTrue, Contains, length, nat_lt, slice_index, slice_index_or}
use Rattle.av_types.specs.Positions.{chunk_of}
use Rattle.av_types.specs.declared.position.Pos.{Pos}
use Rattle.av_types.specs.declared.position.ChunkPos.{ChunkPos}
use Rattle.av_types.specs.declared.position.SectionPos.{SectionPos}
use Rattle.av_types.specs.declared.position.Height.{Height}
use Rattle.av_rules.specs.declared.kinds.Kinds.{Kinds}
use Rattle.av_rules.specs.Kinds.{row_at}
use Rattle.av_flood.specs.Light.{Terrain}

-- each of them is in the list
pub record HasLamps (t : Terrain) (c : ChunkPos) (lamps : List Pos) : Type 0 where
  pub lit : (p : Pos) → chunk_of p ≡ c → IsTrue (t.loaded p) → 0 < t.emission p → Contains lamps p

-- a section of a chunk, by its place from the lowest up
abbrev pub section_at : ChunkPos → Height → ℕ → SectionPos
section_at c h n = record { x = c.x; y = h.min_section +ℤ pos n; z = c.z }

-- a section in whose chunk loaded blocks can lie
pub record IsNearSection (s : SectionPos) : Type 0 where
  pub west : negsuc 1920030 ≤ℤ s.x
  pub east : s.x ≤ℤ pos 1920031
  pub low : negsuc 63 ≤ℤ s.y
  pub high : s.y ≤ℤ pos 63
  pub north : negsuc 1920030 ≤ℤ s.z
  pub south : s.z ≤ℤ pos 1920031

-- whether the state of each number of a palette gives light
pub record AreShining (k : Kinds) (palette : List ℕ) (flags : List Bool) : Type 0 where
  pub count : length flags ≡ length palette
  pub each : (i : ℕ) → i < length palette → slice_index_or flags i false ≡ nat_lt 0 (row_at k (slice_index palette i)).emission
