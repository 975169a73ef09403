-- What is written at each index of a region. Working definitions.
use Rattle.std.specs.Prelude.{◌≡◌, ℕ, List, [], ◌∷◌, Option, Some, None, map, option_map, slice_get, take, drop}
use Rattle.std.specs.List.{range_with_len}
use Rattle.av_types.specs.Positions.{chunk_at}
use Rattle.av_types.specs.declared.position.ChunkPos.{ChunkPos}
use Rattle.av_nbt.specs.Writing.{written_document}
use Rattle.av_rules.specs.declared.kinds.Kinds.{Kinds}
use Rattle.av_region.specs.Layout.{region_bytes, first_too_large}
use Rattle.av_document.specs.Layout.{chunk_layout}
use Rattle.av_chunk.specs.Views.{rest_of}
use Rattle.av_chunk.specs.declared.light.ChunkLight.{ChunkLight}
use Rattle.av_chunk.specs.declared.rest.ChunkRest.{ChunkRest}
use Rattle.av_world.specs.Views.{height_of, lists}
use Rattle.av_world.specs.declared.worlds.World.{World}
use Rattle.av_files.specs.Files.{File}
use Rattle.av_files.specs.Layout.{first_or}
use Rattle.av_image.specs.declared.writing.payloads.Payload.{Payload}
use Rattle.av_image.specs.declared.writing.payloads.Payload.TheVariants as payload
use Rattle.av_image.specs.declared.rest.Slot.{Slot}
use Rattle.av_image.specs.declared.rest.Slot.TheVariants.{Absent, Kept, Loaded}
use Rattle.av_image.specs.declared.rest.RegionRest.{RegionRest}
use Rattle.av_image.specs.Saving.{states_in, sources_in, lights_in}

abbrev pub payload_items : Payload → List ℕ
payload_items (payload.Kept s) = s.now
payload_items (payload.Written v) = v.items

-- a loaded chunk
abbrev pub loaded_bytes : World → Kinds → List ChunkLight → ℕ → ChunkPos → ChunkRest → List ℕ
loaded_bytes w k ls n c r = written_document (chunk_layout c (height_of w) (states_in k w).at (lists w c) (sources_in k w) (rest_of r) (lights_in w ls c) n)

abbrev pub slot_payload : World → Kinds → List ChunkLight → ℕ → ChunkPos → Option Slot → Option (List ℕ)
slot_payload w k ls n c None = None
slot_payload w k ls n c (Some Absent) = None
slot_payload w k ls n c (Some (Kept p)) = Some p.items
slot_payload w k ls n c (Some (Loaded r)) = Some (loaded_bytes w k ls n c r)

-- at the first indices of a region
abbrev pub first_payloads : World → Kinds → List ChunkLight → ℕ → RegionRest → ℕ → List (Option (List ℕ))
first_payloads w k ls n r count = map (λ i. slot_payload w k ls n (chunk_at r.pos i) (slice_get r.slots.items i)) (range_with_len 0 count)

abbrev pub region_payloads : World → Kinds → List ChunkLight → ℕ → RegionRest → List (Option (List ℕ))
region_payloads w k ls n r = first_payloads w k ls n r 1024

abbrev pub region_file : World → Kinds → List ChunkLight → ℕ → RegionRest → File
region_file w k ls n r = record { pos = r.pos; bytes = region_bytes (region_payloads w k ls n r) r.stamps.items }

-- the first chunk of a region that is too large
abbrev pub region_unsaved : World → Kinds → List ChunkLight → ℕ → RegionRest → Option ChunkPos
region_unsaved w k ls n r = option_map (chunk_at r.pos) (first_too_large (region_payloads w k ls n r))

-- the same two of any payloads
abbrev pub file_with : RegionRest → List (Option (List ℕ)) → File
file_with r payloads = record { pos = r.pos; bytes = region_bytes payloads r.stamps.items }

abbrev pub too_large_among : RegionRest → List (Option (List ℕ)) → Option ChunkPos
too_large_among r payloads = option_map (chunk_at r.pos) (first_too_large payloads)

abbrev pub regions_unsaved : World → Kinds → List ChunkLight → ℕ → List RegionRest → Option ChunkPos
regions_unsaved w k ls n [] = None
regions_unsaved w k ls n (r ∷ rs) = first_or (region_unsaved w k ls n r) (regions_unsaved w k ls n rs)

-- How far the writing of regions has come: what will be said of those that are left can be said of all.
pub record SavedSoFar (w : World) (k : Kinds) (ls : List ChunkLight) (n : ℕ) (all : List RegionRest) (count : ℕ) (files : List File) : Type 0 where
  pub done : files ≡ map (region_file w k ls n) (take count all)
  pub way : regions_unsaved w k ls n all ≡ regions_unsaved w k ls n (drop count all)
