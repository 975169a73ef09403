-- What region files say: a world of states, and the rest.
use Rattle.std.specs.Prelude.{◌≡◌, ℕ, ◌<◌, List, [], Option, Some, None, true, false, map}
use Rattle.std.specs.List.{AllByRecursion, list_any}
use Rattle.av_types.specs.Faults.{least}
use Rattle.av_types.specs.Positions.{IsInLimits, chunk_at, region_of}
use Rattle.av_types.specs.declared.position.Height.{Height}
use Rattle.av_types.specs.declared.position.ChunkPos.{ChunkPos}
use Rattle.av_types.specs.declared.position.RegionPos.{RegionPos}
use Rattle.av_types.specs.declared.position.Pos.{Pos}
use Rattle.av_tags.specs.Nbt.{Document}
use Rattle.av_nbt.specs.Spelling.{SpellsDocument}
use Rattle.av_region.specs.Region.{IsShort, IsAbsent, Holds, stamp_of}
use Rattle.av_state.specs.BlockState.{BlockState, air}
use Rattle.av_document.specs.Chunk.{RestOfChunk, DenotesChunk, root_tags, is_full, faults}
use Rattle.av_land.specs.Land.{Land, has_chunk, is_loaded}
use Rattle.av_files.specs.Files.{File, in_order, chunks_rise, regions_rise}
use Rattle.av_region_files.specs.Regions.{same_region}

-- all that files have beside the blocks, the water entries and the light of loaded chunks
pub record Rest : Type 0 where
  -- the regions, by (z, x)
  pub regions : List RegionPos
  pub stamp : RegionPos → ℕ → ℕ
  -- the payload of a chunk that is kept
  pub kept : ChunkPos → Option (List ℕ)
  -- of a loaded chunk; of any other it means nothing
  pub chunk : ChunkPos → RestOfChunk

-- what stands at an index of a file
pub data IsSlot (h : Height) (w : Land BlockState) (r : Rest) (file : List ℕ) (c : ChunkPos) (index : ℕ) : Type 0 where
  absent : IsAbsent file index → has_chunk w.chunks c ≡ false → r.kept c ≡ None → IsSlot h w r file c index
  kept : (payload : List ℕ) (d : Document) → Holds file index payload → SpellsDocument d payload → least (faults h c (root_tags d)) ≡ None → is_full (root_tags d) ≡ false
      → has_chunk w.chunks c ≡ false → r.kept c ≡ Some payload → IsSlot h w r file c index
  full : (payload : List ℕ) (d : Document) → Holds file index payload → SpellsDocument d payload → DenotesChunk c h d w.at (w.lists c) (r.chunk c)
      → has_chunk w.chunks c ≡ true → r.kept c ≡ None → IsSlot h w r file c index

pub record DenotesFile (h : Height) (w : Land BlockState) (r : Rest) (f : File) : Type 0 where
  pub limits : IsInLimits f.pos
  pub whole : ¬ IsShort f.bytes
  pub stamps : (i : ℕ) → i < 1024 → r.stamp f.pos i ≡ stamp_of f.bytes i
  pub slots : (i : ℕ) → i < 1024 → IsSlot h w r f.bytes (chunk_at f.pos i) i

-- The files denote this world and this rest. Where nothing is loaded the world has air and no entries, which means nothing.
pub record Denotes (h : Height) (files : List File) (w : Land BlockState) (r : Rest) : Type 0 where
  -- each file's region once
  pub apart : regions_rise r.regions ≡ true
  pub regions : r.regions ≡ map (λ f. f.pos) (in_order files)
  pub each : AllByRecursion (DenotesFile h w r) files
  pub height : w.height ≡ h
  pub rise : chunks_rise w.chunks ≡ true
  pub others : (c : ChunkPos) → has_chunk w.chunks c ≡ true → list_any (same_region (region_of c)) r.regions ≡ true
  pub air_elsewhere : (p : Pos) → is_loaded w p ≡ false → w.at p ≡ air
  pub none_elsewhere : (c : ChunkPos) → has_chunk w.chunks c ≡ false → w.lists c ≡ []
