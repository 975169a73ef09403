-- The block at a position, as a region file has it.
use Rattle.std.specs.Prelude.{◌≡◌, ◌≢◌, ◌&&◌, ℕ, List, Option, Some, None, IsSome, Bool, true, false, if◌then◌else◌}
use Rattle.std.specs.Ordering.{int_eq}
use Rattle.av_types.specs.Faults.{fault_number}
use Rattle.av_types.specs.Positions.{chunk_of, region_of, index_of, is_block_of}
use Rattle.av_types.specs.declared.position.Pos.{Pos}
use Rattle.av_types.specs.declared.position.RegionPos.{RegionPos}
use Rattle.av_types.specs.declared.position.Height.{Height}
use Rattle.av_types.specs.declared.fault.Fault.{Fault}
use Rattle.av_types.specs.declared.fault.Fault.TheVariants.{OutOfMemory, ShortHeader, BadNbt}
use Rattle.av_tags.specs.Nbt.{NamedTag, Document}
use Rattle.av_nbt.specs.Spelling.{SpellsDocument}
use Rattle.av_nbt.specs.Outcome.{SpellsNone}
use Rattle.av_region.specs.Region.{IsShort, IsAbsent, Holds, IsChunkFault}
use Rattle.av_state.specs.BlockState.{BlockState}
use Rattle.av_state.specs.StateList.{first_states}
use Rattle.av_document.specs.Chunk.{root_tags, is_full, first_fault, cell_of}
use Rattle.av_chunk.specs.declared.chunk.Chunk.{Chunk}
use Rattle.av_chunk.specs.Views.{state_in}
use Rattle.av_codec.specs.Payload.{IsPayloadFault}

-- the position's chunk is one of the region
abbrev pub is_of_region : RegionPos → Pos → Bool
is_of_region r p = int_eq (region_of (chunk_of p)).x r.x && int_eq (region_of (chunk_of p)).z r.z

-- where its chunk stands in the header
abbrev pub index_at : Pos → ℕ
index_at p = index_of (chunk_of p)

-- the state at a position of a chunk that has no fault; none where the chunk is not full or the position is out of the height
abbrev pub block_in : Height → List NamedTag → Pos → Option BlockState
block_in h root p = if is_full root && is_block_of h p.y then Some (cell_of root p) else None

-- the first fault of the position's chunk, whose states are numbered alone
abbrev pub fault_in : Height → List NamedTag → Pos → Option ℕ
fault_in h root p = first_fault h (chunk_of p) first_states root

-- What is found at a position of a file with a whole header: nothing where the position is of another region or there is no such
-- chunk, and else what the chunk's document denotes there.
pub data IsFound (file : List ℕ) (r : RegionPos) (h : Height) (p : Pos) (found : Option BlockState) : Type 0 where
  elsewhere : ¬ IsShort file → is_of_region r p ≡ false → found ≡ None → IsFound file r h p found
  absent : ¬ IsShort file → is_of_region r p ≡ true → IsAbsent file (index_at p) → found ≡ None → IsFound file r h p found
  denoted : ¬ IsShort file → is_of_region r p ≡ true → (payload : List ℕ) (d : Document) → Holds file (index_at p) payload → SpellsDocument d payload
      → fault_in h (root_tags d) p ≡ None → found ≡ block_in h (root_tags d) p → IsFound file r h p found

-- Why nothing is answered: the file's header, the chunk's sectors, bytes that spell no document, or the first fault of its document.
-- Want of memory is answered of a chunk that is there alone.
pub data IsBlockRefused (file : List ℕ) (r : RegionPos) (h : Height) (p : Pos) (e : Fault) : Type 0 where
  memory : ¬ IsShort file → is_of_region r p ≡ true → e ≡ OutOfMemory → (payload : List ℕ) → Holds file (index_at p) payload → IsBlockRefused file r h p e
  header : e ≡ ShortHeader → IsShort file → IsBlockRefused file r h p e
  sectors : ¬ IsShort file → is_of_region r p ≡ true → IsChunkFault file (index_at p) e → IsBlockRefused file r h p e
  spelling : ¬ IsShort file → is_of_region r p ≡ true → e ≡ BadNbt → (payload : List ℕ) → Holds file (index_at p) payload → SpellsNone payload → IsBlockRefused file r h p e
  document : ¬ IsShort file → is_of_region r p ≡ true → (payload : List ℕ) (d : Document) → Holds file (index_at p) payload → SpellsDocument d payload
      → fault_in h (root_tags d) p ≡ Some (fault_number e) → IsBlockRefused file r h p e

-- ---- working definitions of one payload and one chunk

pub record IsDenoted (payload : List ℕ) (h : Height) (p : Pos) (found : Option BlockState) : Type 0 where
  pub document : Document
  pub spelled : SpellsDocument document payload
  pub no_fault : fault_in h (root_tags document) p ≡ None
  pub found_is : found ≡ block_in h (root_tags document) p

abbrev pub IsPayloadRefused : List ℕ → Height → Pos → Fault → Type 0
IsPayloadRefused payload h p e = e ≢ OutOfMemory → IsPayloadFault (chunk_of p) h payload first_states e

-- the state of a block of a chunk in memory, where it is in the height
abbrev pub found_in : List BlockState → Height → Chunk → Pos → Option BlockState
found_in table h chunk p = if is_block_of h p.y then state_in table h chunk p else None

abbrev pub IsNumbered : List BlockState → Height → Chunk → Pos → Type 0
IsNumbered table h chunk p = is_block_of h p.y ≡ true → IsSome (state_in table h chunk p)
