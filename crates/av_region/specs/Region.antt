-- What a region file holds (minecraft.wiki, "Region file format").
--
-- A file begins with 1,024 locations of 4 bytes, one for each chunk, and 1,024 timestamps of 4 bytes. Numbers have the highest byte first.
-- A location is the chunk's offset in sectors of 4,096 bytes, of 3 bytes, and its count of sectors, of 1 byte. 0 means that there is no such chunk.
-- At its offset a chunk has a length field of 4 bytes, which counts the bytes that follow: one for the type of compression, and the payload.
use Rattle.std.specs.Prelude.{◌≡◌, ◌≢◌, ℕ, ◌+◌, ◌*◌, ◌/◌, ◌%◌, ◌<◌, ◌≤◌, ◌⊎◌, List, length, slice_index, slice_range}
use Rattle.std.specs.Int.{w32, from_be_bytes}
use Rattle.av_types.specs.declared.fault.Fault.{Fault}
use Rattle.av_types.specs.declared.fault.Fault.TheVariants.{BadLocation, TruncatedChunk, BadLength, ExternalChunk, Compression}

-- a file too short for its header. One of 0 bytes is a region without chunks.
pub record IsShort (file : List ℕ) : Type 0 where
  pub nonempty : 1 ≤ length file
  pub short : length file ≤ 8191

-- the number in the four bytes from a position on. A byte past the end counts as 0.
unfoldable pub number_at : List ℕ → ℕ → ℕ
number_at file position = from_be_bytes w32 (slice_range file position (position + 4))

abbrev pub location_of : List ℕ → ℕ → ℕ
location_of file index = number_at file (4 * index)

abbrev pub stamp_of : List ℕ → ℕ → ℕ
stamp_of file index = number_at file (4096 + 4 * index)

abbrev pub IsAbsent : List ℕ → ℕ → Type 0
IsAbsent file index = location_of file index ≡ 0

abbrev pub offset_of : List ℕ → ℕ → ℕ
offset_of file index = location_of file index / 256

abbrev pub count_of : List ℕ → ℕ → ℕ
count_of file index = location_of file index % 256

-- the first byte of a chunk's length field
abbrev pub start_of : List ℕ → ℕ → ℕ
start_of file index = 4096 * offset_of file index

-- the length field
abbrev pub length_of : List ℕ → ℕ → ℕ
length_of file index = number_at file (start_of file index)

-- the byte after the last one that the length field counts
abbrev pub end_of : List ℕ → ℕ → ℕ
end_of file index = start_of file index + 4 + length_of file index

-- the type of compression; with 128 added, the payload is in a file of its own
abbrev pub type_of : List ℕ → ℕ → ℕ
type_of file index = slice_index file (start_of file index + 4)

-- A chunk is checked for one fault after the other, and each of these says that the earlier checks were passed.

pub record IsBadLocation (file : List ℕ) (index : ℕ) : Type 0 where
  pub present : location_of file index ≢ 0
  pub cause : (offset_of file index < 2) ⊎ (count_of file index ≡ 0)

pub record IsLocated (file : List ℕ) (index : ℕ) : Type 0 where
  pub offset : 2 ≤ offset_of file index
  pub count : 1 ≤ count_of file index

-- the file ends within the length field, or within the bytes that it counts
pub record IsTruncated (file : List ℕ) (index : ℕ) : Type 0 where
  pub located : IsLocated file index
  pub cause : length file < end_of file index

pub record IsWithinFile (file : List ℕ) (index : ℕ) : Type 0 where
  pub located : IsLocated file index
  pub within : end_of file index ≤ length file

-- not even a type, or more than the chunk's sectors hold
pub record IsBadLength (file : List ℕ) (index : ℕ) : Type 0 where
  pub whole : IsWithinFile file index
  pub cause : (length_of file index ≡ 0) ⊎ (4096 * count_of file index < length_of file index + 4)

pub record IsMeasured (file : List ℕ) (index : ℕ) : Type 0 where
  pub whole : IsWithinFile file index
  pub nonempty : 1 ≤ length_of file index
  pub fits : length_of file index + 4 ≤ 4096 * count_of file index

pub record IsExternal (file : List ℕ) (index : ℕ) : Type 0 where
  pub measured : IsMeasured file index
  pub cause : 128 ≤ type_of file index

-- 3 is the type of chunks that are not compressed
pub record IsCompressed (file : List ℕ) (index kind : ℕ) : Type 0 where
  pub measured : IsMeasured file index
  pub compression : type_of file index ≡ kind
  pub internal : kind < 128
  pub cause : kind ≢ 3

-- the file holds a chunk at the index, with this payload
pub record Holds (file : List ℕ) (index : ℕ) (payload : List ℕ) : Type 0 where
  pub measured : IsMeasured file index
  pub uncompressed : type_of file index ≡ 3
  pub bytes : payload ≡ slice_range file (start_of file index + 5) (end_of file index)

-- the fault of the chunk at an index
abbrev pub IsChunkFault : List ℕ → ℕ → Fault → Type 0
IsChunkFault file index BadLocation = IsBadLocation file index
IsChunkFault file index TruncatedChunk = IsTruncated file index
IsChunkFault file index BadLength = IsBadLength file index
IsChunkFault file index ExternalChunk = IsExternal file index
IsChunkFault file index (Compression kind) = IsCompressed file index kind
IsChunkFault file index _ = ⊥
