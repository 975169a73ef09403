-- What is wrong with region files.
use Rattle.std.specs.Prelude.{◌≡◌, ℕ, zero, suc, List, [], ◌∷◌, ◌++◌, Option, Some, None}
use Rattle.av_types.specs.Faults.{fault_number}
use Rattle.av_types.specs.Positions.{chunk_at}
use Rattle.av_types.specs.declared.position.ChunkPos.{ChunkPos}
use Rattle.av_types.specs.declared.position.RegionPos.{RegionPos}
use Rattle.av_types.specs.declared.position.Height.{Height}
use Rattle.av_types.specs.declared.fault.Fault.{Fault}
use Rattle.av_types.specs.declared.fault.Fault.TheVariants.{ShortHeader, BadNbt}
use Rattle.av_tags.specs.Nbt.{Document}
use Rattle.av_nbt.specs.Spelling.{SpellsDocument}
use Rattle.av_nbt.specs.Outcome.{SpellsNone}
use Rattle.av_region.specs.Region.{IsShort, IsAbsent, Holds, IsChunkFault}
use Rattle.av_state.specs.StateList.{first_states}
use Rattle.av_document.specs.Chunk.{root_tags, first_fault}
use Rattle.av_codec.specs.Payload.{IsPayloadFault}
use Rattle.av_region_files.specs.declared.files.RegionFile.{RegionFile}
use Rattle.av_survey.specs.declared.finding.Finding.{Finding}
use Rattle.av_survey.specs.Listing.{IsList, in_order}

-- the first fault of what stands at an index of a file, by the number of the fault; the chunk's states are numbered alone
pub data IsFaultAlone (h : Height) (file : List ℕ) (c : ChunkPos) (index : ℕ) (e : Fault) : Type 0 where
  sectors : IsChunkFault file index e → IsFaultAlone h file c index e
  spelling : (payload : List ℕ) → Holds file index payload → SpellsNone payload → e ≡ BadNbt → IsFaultAlone h file c index e
  document : (payload : List ℕ) (d : Document) → Holds file index payload → SpellsDocument d payload → first_fault h c first_states (root_tags d) ≡ Some (fault_number e) → IsFaultAlone h file c index e

-- there is no chunk, or one without a fault
pub data IsGoodAlone (h : Height) (file : List ℕ) (c : ChunkPos) (index : ℕ) : Type 0 where
  absent : IsAbsent file index → IsGoodAlone h file c index
  chunk : (payload : List ℕ) (d : Document) → Holds file index payload → SpellsDocument d payload → first_fault h c first_states (root_tags d) ≡ None → IsGoodAlone h file c index

-- the first fault at an index, or none
abbrev pub IsFirstAt : Height → List ℕ → ChunkPos → ℕ → Option Fault → Type 0
IsFirstAt h file c index None = IsGoodAlone h file c index
IsFirstAt h file c index (Some e) = IsFaultAlone h file c index e

-- the finding of a chunk, where it has a fault
abbrev pub noted : RegionPos → ChunkPos → Option Fault → List Finding
noted region c None = []
noted region c (Some e) = record { region = region; chunk = Some c; fault = e } ∷ []

-- what is wrong with the chunks at the first n indices of a file, in this order
unfoldable pub FindsUpTo : Height → RegionPos → List ℕ → ℕ → List Finding → Type 0
FindsUpTo h region file zero found = found ≡ []
FindsUpTo h region file (suc n) found = (before : List Finding) × (fault : Option Fault) × FindsUpTo h region file n before
    × IsFirstAt h file (chunk_at region n) n fault × (found ≡ before ++ noted region (chunk_at region n) fault)

-- what is wrong with a file: its header, or its chunks
pub data FindsInFile (h : Height) (f : RegionFile) (found : List Finding) : Type 0 where
  short : IsShort f.bytes.items → found ≡ record { region = f.pos; chunk = None; fault = ShortHeader } ∷ [] → FindsInFile h f found
  whole : ¬ IsShort f.bytes.items → FindsUpTo h f.pos f.bytes.items 1024 found → FindsInFile h f found

-- what is wrong with files, one after the other
abbrev pub FindsInAll : Height → List RegionFile → List Finding → Type 0
FindsInAll h [] found = found ≡ []
FindsInAll h (f ∷ fs) found = (first : List Finding) × (others : List Finding) × FindsInFile h f first × FindsInAll h fs others × (found ≡ first ++ others)

-- a survey: the list has no fault, and this is all that is wrong with its files, by (z, x) of their regions
pub record IsSurvey (h : Height) (files : List RegionFile) (found : List Finding) : Type 0 where
  pub good : IsList files
  pub all : FindsInAll h (in_order files) found

-- ---- working definitions of one payload

pub record IsPayloadGood (h : Height) (payload : List ℕ) (c : ChunkPos) : Type 0 where
  pub document : Document
  pub spelled : SpellsDocument document payload
  pub no_fault : first_fault h c first_states (root_tags document) ≡ None

abbrev pub IsFirstIn : Height → List ℕ → ChunkPos → Option Fault → Type 0
IsFirstIn h payload c None = IsPayloadGood h payload c
IsFirstIn h payload c (Some e) = IsPayloadFault c h payload first_states e
