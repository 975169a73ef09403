-- What was read of region files. Working definitions.
use Rattle.std.specs.Prelude.{◌≡◌, ℕ, ◌<◌, ◌^◌, List, [], ◌∷◌, length, Some, true, map, slice_get}
use Rattle.std.specs.List.{range_with_len, All}
use Rattle.av_types.specs.Positions.{IsInLimits, chunk_at}
use Rattle.av_types.specs.declared.position.Height.{Height}
use Rattle.av_types.specs.declared.position.ChunkPos.{ChunkPos}
use Rattle.av_types.specs.declared.position.RegionPos.{RegionPos}
use Rattle.av_tags.specs.Nbt.{Document}
use Rattle.av_nbt.specs.Spelling.{SpellsDocument}
use Rattle.av_region.specs.Region.{IsShort, IsAbsent, Holds, stamp_of}
use Rattle.av_state.specs.BlockState.{BlockState}
use Rattle.av_section.specs.Reading.{OnlyGrows}
use Rattle.av_chunk.specs.Reading.{IsLoaded, IsKept}
use Rattle.av_chunk.specs.declared.chunk.Chunk.{Chunk}
use Rattle.av_chunk.specs.declared.rest.ChunkRest.{ChunkRest}
use Rattle.av_files.specs.Files.{File, regions_rise}
use Rattle.av_files.specs.Layout.{indices}
use Rattle.av_files.specs.FirstFault.{AreIndicesGood, AreFilesGood, IsFileGood}
use Rattle.av_image.specs.declared.reading.stored.Stored.{Stored}
use Rattle.av_image.specs.declared.reading.stored.Stored.TheVariants.{Absent, Kept, Full}
use Rattle.av_image.specs.declared.reading.regions.ReadRegion.{ReadRegion}

abbrev pub file_of : RegionPos → List ℕ → File
file_of p bytes = record { pos = p; bytes = bytes }

abbrev pub are_stamps : List ℕ → ℕ → List ℕ
are_stamps file n = map (stamp_of file) (range_with_len 0 n)

-- ---- one payload

pub record IsKeptPayload (h : Height) (old new : List BlockState) (payload : List ℕ) (c : ChunkPos) (same : List ℕ) : Type 0 where
  pub document : Document
  pub spelled : SpellsDocument document payload
  pub kept : IsKept c h document old new
  pub copied : same ≡ payload

pub record IsFullPayload (h : Height) (old new : List BlockState) (payload : List ℕ) (c : ChunkPos) (chunk : Chunk) (rest : ChunkRest) : Type 0 where
  pub document : Document
  pub spelled : SpellsDocument document payload
  pub loaded : IsLoaded c h document old new chunk rest

abbrev pub IsPayloadRead : Height → List BlockState → List BlockState → List ℕ → ChunkPos → Stored → Type 0
IsPayloadRead h old new payload c Absent = ⊥
IsPayloadRead h old new payload c (Kept same) = IsKeptPayload h old new payload c same.items
IsPayloadRead h old new payload c (Full chunk rest) = IsFullPayload h old new payload c chunk rest

-- ---- one index

pub record IsAbsentAt (old new : List BlockState) (file : List ℕ) (index : ℕ) : Type 0 where
  pub nothing : IsAbsent file index
  pub same : new ≡ old

pub record IsKeptAt (h : Height) (old new : List BlockState) (file : List ℕ) (c : ChunkPos) (index : ℕ) (same : List ℕ) : Type 0 where
  pub payload : List ℕ
  pub holds : Holds file index payload
  pub read : IsKeptPayload h old new payload c same

pub record IsFullAt (h : Height) (old new : List BlockState) (file : List ℕ) (c : ChunkPos) (index : ℕ) (chunk : Chunk) (rest : ChunkRest) : Type 0 where
  pub payload : List ℕ
  pub holds : Holds file index payload
  pub read : IsFullPayload h old new payload c chunk rest

abbrev pub IsReadAt : Height → List BlockState → List BlockState → List ℕ → ChunkPos → ℕ → Stored → Type 0
IsReadAt h old new file c index Absent = IsAbsentAt old new file index
IsReadAt h old new file c index (Kept same) = IsKeptAt h old new file c index same.items
IsReadAt h old new file c index (Full chunk rest) = IsFullAt h old new file c index chunk rest

-- ---- indices and regions, by a table that has grown since

pub record WasReadAt (h : Height) (table : List BlockState) (file : List ℕ) (c : ChunkPos) (index : ℕ) (item : Stored) : Type 0 where
  pub old : List BlockState
  pub new : List BlockState
  pub read : IsReadAt h old new file c index item
  pub grown : OnlyGrows new table

pub record WereIndicesRead (h : Height) (table : List BlockState) (f : File) (count : ℕ) (stored : List Stored) : Type 0 where
  pub many : length stored ≡ count
  pub each : (i : ℕ) (p : Stored) → slice_get stored i ≡ Some p → WasReadAt h table f.bytes (chunk_at f.pos i) i p

pub record AreIndicesRead (h : Height) (old new : List BlockState) (f : File) (stored : List Stored) : Type 0 where
  pub good : AreIndicesGood h old f indices new
  pub each : WereIndicesRead h new f 1024 stored

pub record WasRegionRead (h : Height) (table : List BlockState) (f : File) (r : ReadRegion) : Type 0 where
  pub pos_is : r.pos ≡ f.pos
  pub limits : IsInLimits f.pos
  pub whole : ¬ IsShort f.bytes
  pub stamps_are : r.stamps.items ≡ are_stamps f.bytes 1024
  pub small : All (λ n. n < 2 ^ 32) r.stamps.items
  pub stored_are : WereIndicesRead h table f 1024 r.stored.items

pub record IsRegionRead (h : Height) (old new : List BlockState) (f : File) (r : ReadRegion) : Type 0 where
  pub good : IsFileGood h old f new
  pub read : WasRegionRead h new f r

abbrev pub WereRegionsRead : Height → List BlockState → List File → List ReadRegion → Type 0
WereRegionsRead h table [] [] = Unit {0}
WereRegionsRead h table (f ∷ fs) (r ∷ rs) = WasRegionRead h table f r × WereRegionsRead h table fs rs
WereRegionsRead h table _ _ = ⊥

-- of some files in their order
pub record WereFilesRead (h : Height) (table : List BlockState) (rs : List ReadRegion) : Type 0 where
  pub files : List File
  pub rise : regions_rise (map (λ f. f.pos) files) ≡ true
  pub each : WereRegionsRead h table files rs

pub record AreRegionsRead (h : Height) (old new : List BlockState) (fs : List File) (rs : List ReadRegion) : Type 0 where
  pub good : AreFilesGood h old fs new
  pub each : WereRegionsRead h new fs rs
