-- The section, the chunk and the region that a block lies in (minecraft.wiki, "Chunk format" and "Region file format").
use Rattle.std.specs.Prelude.{ℕ, ◌+◌, ◌*◌, ◌%◌, ◌/◌, ℤ, pos, negsuc, nat_abs, ◌+ℤ◌, ◌-ℤ◌, ◌*ℤ◌, ◌≤ℤ◌, ◌<ℤ◌, int_le, int_lt, Bool, ◌&&◌}
use Rattle.std.specs.Ordering.{int_eq}
use Rattle.av_types.specs.Division.{divided, remainder}
use Rattle.av_types.specs.declared.position.Pos.{Pos}
use Rattle.av_types.specs.declared.position.ChunkPos.{ChunkPos}
use Rattle.av_types.specs.declared.position.SectionPos.{SectionPos}
use Rattle.av_types.specs.declared.position.RegionPos.{RegionPos}
use Rattle.av_types.specs.declared.position.Height.{Height}

abbrev pub chunk_of : Pos → ChunkPos
chunk_of p = record { x = divided p.x 16; z = divided p.z 16 }

abbrev pub section_of : Pos → SectionPos
section_of p = record { x = divided p.x 16; y = divided p.y 16; z = divided p.z 16 }

-- where a block lies in its section
abbrev pub place_of : Pos → ℕ
place_of p = 256 * remainder p.y 16 + 16 * remainder p.z 16 + remainder p.x 16

-- the block at a place of a section
abbrev pub block_at : SectionPos → ℕ → Pos
block_at s i = record { x = pos 16 *ℤ s.x +ℤ pos (i % 16); y = pos 16 *ℤ s.y +ℤ pos (i / 256); z = pos 16 *ℤ s.z +ℤ pos (i / 16 % 16) }

abbrev pub chunk_of_section : SectionPos → ChunkPos
chunk_of_section s = record { x = s.x; z = s.z }

abbrev pub region_of : ChunkPos → RegionPos
region_of c = record { x = divided c.x 32; z = divided c.z 32 }

-- where a chunk stands in its region's header
abbrev pub index_of : ChunkPos → ℕ
index_of c = remainder c.x 32 + 32 * remainder c.z 32

-- the chunk at an index of a region
abbrev pub chunk_at : RegionPos → ℕ → ChunkPos
chunk_at r i = record { x = pos 32 *ℤ r.x +ℤ pos (i % 32); z = pos 32 *ℤ r.z +ℤ pos (i / 32) }

-- a region that this project accepts: each coordinate from -60,000 to 60,000
pub record IsInLimits (r : RegionPos) : Type 0 where
  pub west : negsuc 59999 ≤ℤ r.x
  pub east : r.x ≤ℤ pos 60000
  pub north : negsuc 59999 ≤ℤ r.z
  pub south : r.z ≤ℤ pos 60000

-- a chunk of such a region: each coordinate from -1,920,000 to 1,920,031
pub record IsChunkInLimits (c : ChunkPos) : Type 0 where
  pub west : negsuc 1919999 ≤ℤ c.x
  pub east : c.x ≤ℤ pos 1920031
  pub north : negsuc 1919999 ≤ℤ c.z
  pub south : c.z ≤ℤ pos 1920031

-- the same block, the same chunk, the same section
abbrev pub same_pos : Pos → Pos → Bool
same_pos p q = int_eq p.x q.x && int_eq p.y q.y && int_eq p.z q.z

abbrev pub same_chunk : ChunkPos → ChunkPos → Bool
same_chunk a b = int_eq a.x b.x && int_eq a.z b.z

abbrev pub same_section : SectionPos → SectionPos → Bool
same_section s t = int_eq s.x t.x && int_eq s.y t.y && int_eq s.z t.z

-- a section's number in the height, and a block's y
pub record IsSectionOf (h : Height) (y : ℤ) : Type 0 where
  pub low : h.min_section ≤ℤ y
  pub high : y <ℤ (h.min_section +ℤ pos h.sections)

abbrev pub IsBlockOf : Height → ℤ → Type 0
IsBlockOf h y = IsSectionOf h (divided y 16)

-- the same as tests
abbrev pub is_section_of : Height → ℤ → Bool
is_section_of h y = int_le h.min_section y && int_lt y (h.min_section +ℤ pos h.sections)

abbrev pub is_block_of : Height → ℤ → Bool
is_block_of h y = is_section_of h (divided y 16)

-- where a section of the height stands among them, the lowest first
abbrev pub section_index : Height → ℤ → ℕ
section_index h y = nat_abs (y -ℤ h.min_section)
