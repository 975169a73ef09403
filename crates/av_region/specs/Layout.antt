-- A region file as it is written (minecraft.wiki, "Region file format"): chunks stand in the order of their indices from sector 2 on without gaps, each not compressed and
-- padded with zeros to whole sectors. A list of payloads has one for each index, and None where there is no chunk.
use Rattle.std.specs.Prelude.{◌≡◌, ℕ, ◌+◌, ◌-◌, ◌*◌, ◌<◌, ◌≤◌, ◌^◌, Bool, false, nat_lt, List, [], ◌∷◌, ◌++◌, length, slice_get, replicate, Option, Some, None}
use Rattle.std.specs.Int.{w32, to_be_bytes, div_ceil}
use Rattle.std.specs.List.{flat_map, position, All}
use Rattle.av_region.specs.Region.{Holds, IsAbsent, stamp_of}

-- how many sectors a chunk fills: its length field, its type and its payload
abbrev pub sectors_for : Option (List ℕ) → ℕ
sectors_for None = 0
sectors_for (Some payload) = div_ceil (length payload + 5) 4096

-- the location of a chunk that begins at this sector
abbrev pub location_for : ℕ → Option (List ℕ) → ℕ
location_for sector None = 0
location_for sector (Some payload) = 256 * sector + sectors_for (Some payload)

-- the locations of chunks, the first of which begins at this sector
abbrev pub locations_from : ℕ → List (Option (List ℕ)) → List ℕ
locations_from sector [] = []
locations_from sector (payload ∷ payloads) = to_be_bytes w32 (location_for sector payload) ++ locations_from (sector + sectors_for payload) payloads

-- the bytes of a chunk
abbrev pub chunk_bytes : Option (List ℕ) → List ℕ
chunk_bytes None = []
chunk_bytes (Some payload) = to_be_bytes w32 (length payload + 1) ++ 3 ∷ payload ++ replicate (4096 * sectors_for (Some payload) - (length payload + 5)) 0

-- the bytes of a region
unfoldable pub region_bytes : List (Option (List ℕ)) → List ℕ → List ℕ
region_bytes payloads stamps = locations_from 2 payloads ++ flat_map (to_be_bytes w32) stamps ++ flat_map chunk_bytes payloads

-- a chunk has at most 255 sectors, of which the length field counts all bytes but its own 4
abbrev pub is_too_large : Option (List ℕ) → Bool
is_too_large None = false
is_too_large (Some payload) = nat_lt 1044476 (length payload + 1)

abbrev pub first_too_large : List (Option (List ℕ)) → Option ℕ
first_too_large payloads = position is_too_large payloads

-- a file holds these payloads and timestamps at their indices, and nothing at the others
pub record HoldsAll (file : List ℕ) (payloads : List (Option (List ℕ))) (stamps : List ℕ) : Type 0 where
  pub header : 8192 ≤ length file
  pub held : (index : ℕ) (payload : List ℕ) → slice_get payloads index ≡ Some (Some payload) → Holds file index payload
  pub absent : (index : ℕ) → slice_get payloads index ≡ Some None → IsAbsent file index
  pub stamped : (index stamp : ℕ) → slice_get stamps index ≡ Some stamp → stamp_of file index ≡ stamp

-- a region that was written holds what it was written from
abbrev pub WrittenHolds : Type 0
WrittenHolds = (payloads : List (Option (List ℕ))) (stamps : List ℕ) → length payloads ≡ 1024 → length stamps ≡ 1024 → first_too_large payloads ≡ None → All (λ stamp. stamp < 2 ^ 32) stamps → HoldsAll (region_bytes payloads stamps) payloads stamps
