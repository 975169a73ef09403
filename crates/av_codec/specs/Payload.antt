-- What the payload of a chunk is read as: the document that it spells, read as a chunk.
use Rattle.std.specs.Prelude.{◌≡◌, List, ℕ, Some}
use Rattle.av_types.specs.Faults.{fault_number}
use Rattle.av_types.specs.declared.position.ChunkPos.{ChunkPos}
use Rattle.av_types.specs.declared.position.Height.{Height}
use Rattle.av_types.specs.declared.fault.Fault.{Fault}
use Rattle.av_types.specs.declared.fault.Fault.TheVariants.{BadNbt}
use Rattle.av_tags.specs.Nbt.{Document}
use Rattle.av_nbt.specs.Spelling.{SpellsDocument}
use Rattle.av_nbt.specs.Outcome.{SpellsNone}
use Rattle.av_state.specs.BlockState.{BlockState}
use Rattle.av_document.specs.Chunk.{root_tags, first_fault}
use Rattle.av_chunk.specs.declared.chunk.Reading.{Reading}
use Rattle.av_chunk.specs.Reading.{IsReading}

-- the document of the bytes, read by a table that had the old states and has the new ones
pub record IsPayloadReading (c : ChunkPos) (h : Height) (payload : List ℕ) (old new : List BlockState) (r : Reading) : Type 0 where
  pub document : Document
  pub spelled : SpellsDocument document payload
  pub reading : IsReading c h document old new r

-- the first fault of a payload: its bytes spell no document, or the first fault of its document
pub data IsPayloadFault (c : ChunkPos) (h : Height) (payload : List ℕ) (old : List BlockState) (e : Fault) : Type 0 where
  no_document : SpellsNone payload → e ≡ BadNbt → IsPayloadFault c h payload old e
  bad_document : (d : Document) → SpellsDocument d payload → first_fault h c old (root_tags d) ≡ Some (fault_number e) → IsPayloadFault c h payload old e
