-- What files and a rest in memory stand for.
use Rattle.std.specs.Prelude.{ℕ, List, [], ◌∷◌, Option, Some, None, map, slice_get, slice_index_or, if◌then◌else◌}
use Rattle.av_types.specs.Positions.{region_of, index_of}
use Rattle.av_types.specs.declared.position.ChunkPos.{ChunkPos}
use Rattle.av_types.specs.declared.position.RegionPos.{RegionPos}
use Rattle.av_document.specs.Chunk.{RestOfChunk}
use Rattle.av_chunk.specs.Views.{rest_of}
pub use Rattle.av_files.specs.Files.{file_in}
use Rattle.av_region_files.specs.Regions.{same_region}
use Rattle.av_files.specs.Denotes as files
use Rattle.av_image.specs.declared.rest.Slot.{Slot}
use Rattle.av_image.specs.declared.rest.Slot.TheVariants as slots
use Rattle.av_image.specs.declared.rest.RegionRest.{RegionRest}
use Rattle.av_image.specs.declared.rest.Rest.{Rest}

-- the first region with a position
abbrev pub region_found : List RegionRest → RegionPos → Option RegionRest
region_found [] p = None
region_found (r ∷ rs) p = if same_region r.pos p then Some r else region_found rs p

abbrev pub stamp_in : Option RegionRest → ℕ → ℕ
stamp_in None i = 0
stamp_in (Some r) i = slice_index_or r.stamps.items i 0

abbrev pub slot_in : Option RegionRest → ℕ → Option Slot
slot_in None i = None
slot_in (Some r) i = slice_get r.slots.items i

abbrev pub slot_at : List RegionRest → ChunkPos → Option Slot
slot_at rs c = slot_in (region_found rs (region_of c)) (index_of c)

abbrev pub kept_in : Option Slot → Option (List ℕ)
kept_in None = None
kept_in (Some slots.Absent) = None
kept_in (Some (slots.Kept p)) = Some p.items
kept_in (Some (slots.Loaded r)) = None

-- of no loaded chunk
abbrev pub no_rest : RestOfChunk
no_rest = record { name = []; tags = []; foreign = []; outside = λ y. None; section = λ y. record { tags = []; states = [] } }

abbrev pub chunk_rest_in : Option Slot → RestOfChunk
chunk_rest_in None = no_rest
chunk_rest_in (Some slots.Absent) = no_rest
chunk_rest_in (Some (slots.Kept p)) = no_rest
chunk_rest_in (Some (slots.Loaded r)) = rest_of r

abbrev pub rest_view : List RegionRest → files.Rest
rest_view rs = record {
  regions = map (λ r. r.pos) rs;
  stamp = λ p i. stamp_in (region_found rs p) i;
  kept = λ c. kept_in (slot_at rs c);
  chunk = λ c. chunk_rest_in (slot_at rs c);
}

-- what the files have beside the world
abbrev pub rest_in : Rest → files.Rest
rest_in r = rest_view r.regions.items
