-- A region whose chunks were read and written again.
use Rattle.std.specs.Prelude.{◌≡◌, ℕ, pos, List, Some, false, length}
use Rattle.std.specs.List.{slice_get}
use Rattle.av_types.specs.Positions.{chunk_at}
use Rattle.av_types.specs.declared.position.Pos.{Pos}
use Rattle.av_types.specs.declared.position.ChunkPos.{ChunkPos}
use Rattle.av_types.specs.declared.position.Height.{Height}
use Rattle.av_types.specs.declared.tick.Entry.{Entry}
use Rattle.av_tags.specs.Nbt.{Document}
use Rattle.av_nbt.specs.Spelling.{SpellsDocument}
use Rattle.av_region.specs.Region.{Holds, IsAbsent}
use Rattle.av_state.specs.BlockState.{BlockState}
use Rattle.av_section.specs.Reading.{OnlyGrows}
use Rattle.av_document.specs.Chunk.{RestOfChunk, is_full, root_tags}
use Rattle.av_document.specs.Law.{SpellsChunk}
use Rattle.av_chunk.specs.Reading.{IsLoaded}
use Rattle.av_chunk.specs.declared.chunk.Chunk.{Chunk}
use Rattle.av_chunk.specs.declared.rest.ChunkRest.{ChunkRest}
use Rattle.av_rewrite.specs.declared.rewriting.Slot.{Slot}
use Rattle.av_rewrite.specs.declared.rewriting.Slot.TheVariants.{Absent, Kept, Full}

-- the chunk at an index of the region at 0, 0
abbrev pub at_index : ℕ → ChunkPos
at_index index = chunk_at (record { x = pos 0; z = pos 0 }) index

-- bytes for a chunk: of one that is not full the payload itself, and of a loaded one bytes that spell the same blocks, water entries and rest
pub data IsRewritten (h : Height) (index : ℕ) (payload bytes : List ℕ) : Type 0 where
  kept : (d : Document) → SpellsDocument d payload → is_full (root_tags d) ≡ false → bytes ≡ payload → IsRewritten h index payload bytes
  loaded : (cells : Pos → BlockState) (water : List Entry) (rest : RestOfChunk) → SpellsChunk (at_index index) h payload cells water rest → SpellsChunk (at_index index) h bytes cells water rest → IsRewritten h index payload bytes

-- Working definitions from here on.

-- a payload that is kept
pub record IsKeptAt (region : List ℕ) (index : ℕ) (payload : List ℕ) : Type 0 where
  pub held : Holds region index payload
  pub document : Document
  pub spelled : SpellsDocument document payload
  pub not_full : is_full (root_tags document) ≡ false

-- a chunk that was read at an index, by a table that has grown since
pub record IsReadAt (h : Height) (region : List ℕ) (table : List BlockState) (index : ℕ) (chunk : Chunk) (rest : ChunkRest) : Type 0 where
  pub payload : List ℕ
  pub held : Holds region index payload
  pub document : Document
  pub spelled : SpellsDocument document payload
  pub old : List BlockState
  pub new : List BlockState
  pub loaded : IsLoaded (at_index index) h document old new chunk rest
  pub grown : OnlyGrows new table

-- what was read at an index
abbrev pub IsSlotRead : Height → List ℕ → List BlockState → ℕ → Slot → Type 0
IsSlotRead h region table index Absent = IsAbsent region index
IsSlotRead h region table index (Kept payload) = IsKeptAt region index payload.now
IsSlotRead h region table index (Full chunk rest) = IsReadAt h region table index chunk rest

pub record AreSlots (h : Height) (region : List ℕ) (table : List BlockState) (count : ℕ) (slots : List Slot) : Type 0 where
  pub many : length slots ≡ count
  pub each : (index : ℕ) (slot : Slot) → slice_get slots index ≡ Some slot → IsSlotRead h region table index slot

-- a slot that was read somewhere, of a height with so many sections
pub record SlotWasRead (table : List BlockState) (sections : ℕ) (slot : Slot) : Type 0 where
  pub height : Height
  pub region : List ℕ
  pub index : ℕ
  pub is_slot : IsSlotRead height region table index slot
  pub lit : sections ≡ height.sections

pub record SlotsWereRead (table : List BlockState) (sections : ℕ) (slots : List Slot) : Type 0 where
  pub height : Height
  pub region : List ℕ
  pub count : ℕ
  pub are_slots : AreSlots height region table count slots
  pub lit : sections ≡ height.sections
