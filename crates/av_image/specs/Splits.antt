-- What was read of regions, as a world and a rest. Working definitions.
use Rattle.std.specs.Prelude.{◌≡◌, ℕ, ◌+◌, List, [], ◌∷◌, ◌++◌, Option, Some, None, true, false, map, if◌then◌else◌}
use Rattle.av_types.specs.Positions.{chunk_at, chunk_of_section}
use Rattle.av_types.specs.declared.position.Height.{Height}
use Rattle.av_types.specs.declared.position.ChunkPos.{ChunkPos}
use Rattle.av_types.specs.declared.position.SectionPos.{SectionPos}
use Rattle.av_types.specs.declared.position.RegionPos.{RegionPos}
use Rattle.av_ticks.specs.Ticks.{entries}
use Rattle.av_chunk.specs.declared.chunk.Chunk.{Chunk}
use Rattle.av_cells.specs.Positions.{same_chunk}
use Rattle.av_world.specs.Inserted.{chunk_grid}
use Rattle.av_world.specs.Views.{grid, lists}
use Rattle.av_world.specs.declared.worlds.World.{World}
use Rattle.av_land.specs.Land.{has_chunk}
use Rattle.av_image.specs.declared.reading.stored.Stored.{Stored}
use Rattle.av_image.specs.declared.reading.stored.Stored.TheVariants.{Absent, Kept, Full}
use Rattle.av_image.specs.declared.reading.regions.ReadRegion.{ReadRegion}
use Rattle.av_image.specs.declared.rest.Slot.{Slot}
use Rattle.av_image.specs.declared.rest.Slot.TheVariants as slots
use Rattle.av_image.specs.declared.rest.RegionRest.{RegionRest}
use Rattle.av_image.specs.declared.reading.splits.LoadedChunk.{LoadedChunk}

-- ---- indices split into slots and chunks

abbrev pub slot_of : Stored → Slot
slot_of Absent = slots.Absent
slot_of (Kept p) = slots.Kept p
slot_of (Full chunk rest) = slots.Loaded rest

abbrev pub positioned : ChunkPos → Chunk → LoadedChunk
positioned c x = record { at = c; chunk = x }

abbrev pub positioned_of : ChunkPos → Stored → List LoadedChunk
positioned_of c Absent = []
positioned_of c (Kept p) = []
positioned_of c (Full chunk rest) = positioned c chunk ∷ []

abbrev pub positioned_from : RegionPos → ℕ → List Stored → List LoadedChunk
positioned_from r n [] = []
positioned_from r n (p ∷ ps) = positioned_of (chunk_at r n) p ++ positioned_from r (n + 1) ps

abbrev pub positioned_in : ReadRegion → List LoadedChunk
positioned_in r = positioned_from r.pos 0 r.stored.items

pub record IsSplit (r : ReadRegion) (x : RegionRest) : Type 0 where
  pub pos_is : x.pos ≡ r.pos
  pub stamps_are : x.stamps.items ≡ r.stamps.items
  pub slots_are : x.slots.items ≡ map slot_of r.stored.items

abbrev pub AreSplit : List ReadRegion → List RegionRest → Type 0
AreSplit [] [] = Unit {0}
AreSplit (r ∷ rs) (x ∷ xs) = IsSplit r x × AreSplit rs xs
AreSplit _ _ = ⊥

-- ---- a world of chunks

abbrev pub chunk_found : List LoadedChunk → ChunkPos → Option Chunk
chunk_found [] c = None
chunk_found (x ∷ xs) c = if same_chunk x.at c then Some x.chunk else chunk_found xs c

abbrev pub ArePositionedOnce : List LoadedChunk → Type 0
ArePositionedOnce [] = Unit {0}
ArePositionedOnce (x ∷ xs) = (chunk_found xs x.at ≡ None) × ArePositionedOnce xs

-- the world has this chunk at c, or none
abbrev pub HasAt : Height → World → ChunkPos → Option Chunk → Type 0
HasAt h w c None = (has_chunk w.positions.items c ≡ false) × ((s : SectionPos) → chunk_of_section s ≡ c → grid w s ≡ None) × (lists w c ≡ [])
HasAt h w c (Some x) = (has_chunk w.positions.items c ≡ true) × ((s : SectionPos) → chunk_of_section s ≡ c → grid w s ≡ chunk_grid h x s) × (lists w c ≡ entries x.ticks)

pub record IsWorldOf (h : Height) (xs : List LoadedChunk) (w : World) : Type 0 where
  pub height_is : w.height ≡ h
  pub each : (c : ChunkPos) → HasAt h w c (chunk_found xs c)
