-- A region that is made of another one, chunk by chunk.
use Rattle.std.specs.Prelude.{◌≡◌, ℕ, ◌<◌, List, Option, Some, None, length}
use Rattle.std.specs.List.{slice_get}
use Rattle.av_tags.specs.Nbt.{Document}
use Rattle.av_nbt.specs.Spelling.{SpellsDocument}
use Rattle.av_nbt.specs.Writing.{written_document}
use Rattle.av_region.specs.Region.{Holds, IsAbsent, stamp_of}

-- bytes that are written of the document that a payload spells
pub record IsRecoded (payload bytes : List ℕ) : Type 0 where
  pub document : Document
  pub spelled : SpellsDocument document payload
  pub written : bytes ≡ written_document document

-- what stands for the chunk at an index of a region: nothing for none, and bytes that are made of its payload
abbrev pub IsMadeOf : (ℕ → List ℕ → List ℕ → Type 0) → List ℕ → ℕ → Option (List ℕ) → Type 0
IsMadeOf Made region index None = IsAbsent region index
IsMadeOf Made region index (Some bytes) = (payload : List ℕ) × Holds region index payload × Made index payload bytes

-- the same for the indices below a number
pub record AreMadeOf (Made : ℕ → List ℕ → List ℕ → Type 0) (region : List ℕ) (count : ℕ) (payloads : List (Option (List ℕ))) : Type 0 where
  pub many : length payloads ≡ count
  pub each : (index : ℕ) (made : Option (List ℕ)) → slice_get payloads index ≡ Some made → IsMadeOf Made region index made

-- the first timestamps of a region
pub record AreStamps (region : List ℕ) (count : ℕ) (stamps : List ℕ) : Type 0 where
  pub many : length stamps ≡ count
  pub each : (index stamp : ℕ) → slice_get stamps index ≡ Some stamp → stamp ≡ stamp_of region index

-- at an index a region holds nothing where the old one does, and else what is made of its payload
pub data HoldsMade (Made : ℕ → List ℕ → List ℕ → Type 0) (old new : List ℕ) (index : ℕ) : Type 0 where
  none : IsAbsent old index → IsAbsent new index → HoldsMade Made old new index
  one : (payload bytes : List ℕ) → Holds old index payload → Made index payload bytes → Holds new index bytes → HoldsMade Made old new index

-- a region of what is made of another one's chunks, each at its index, with all timestamps as they were
pub record IsRegionMadeOf (Made : ℕ → List ℕ → List ℕ → Type 0) (old new : List ℕ) : Type 0 where
  pub chunks : (index : ℕ) → index < 1024 → HoldsMade Made old new index
  pub stamps : (index : ℕ) → index < 1024 → stamp_of new index ≡ stamp_of old index
