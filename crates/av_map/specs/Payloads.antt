-- Working definitions. No public clause cites them.
-- What one document and one payload show.
use Rattle.std.specs.Prelude.{◌≡◌, ◌≢◌, ℕ, List, None, false}
use Rattle.av_types.specs.declared.fault.Fault.{Fault}
use Rattle.av_types.specs.declared.fault.Fault.TheVariants.{OutOfMemory}
use Rattle.av_types.specs.declared.position.ChunkPos.{ChunkPos}
use Rattle.av_types.specs.declared.position.Height.{Height}
use Rattle.av_types.specs.declared.position.Pos.{Pos}
use Rattle.av_types.specs.declared.tick.Entry.{Entry}
use Rattle.av_tags.specs.Nbt.{Document}
use Rattle.av_nbt.specs.Spelling.{SpellsDocument}
use Rattle.av_state.specs.BlockState.{BlockState}
use Rattle.av_state.specs.StateList.{first_states}
use Rattle.av_document.specs.Chunk.{RestOfChunk, DenotesChunk, root_tags, first_fault, is_full}
use Rattle.av_codec.specs.Payload.{IsPayloadFault}
use Rattle.av_map.specs.Colours.{NamedColour}
use Rattle.av_map.specs.Patches.{IsShown, sights_in}
use Rattle.av_map.specs.declared.patch.Patch.{Patch}
use Rattle.av_map.specs.declared.patch.Patch.TheVariants.{Clear, Unread}
use Rattle.av_map.specs.declared.view.View.{View}

pub data IsDocumentPatch (view : View) (named : List NamedColour) (h : Height) (d : Document) (c : ChunkPos) (patch : Patch) : Type 0 where
  document_kept : first_fault h c first_states (root_tags d) ≡ None → is_full (root_tags d) ≡ false → patch ≡ Clear → IsDocumentPatch view named h d c patch
  document_full : (cells : Pos → BlockState) (water : List Entry) (rest : RestOfChunk) → first_fault h c first_states (root_tags d) ≡ None
      → DenotesChunk c h d cells water rest → IsShown patch (sights_in view named cells (root_tags d) c h) → IsDocumentPatch view named h d c patch

pub record IsPayloadPatch (view : View) (named : List NamedColour) (h : Height) (payload : List ℕ) (c : ChunkPos) (patch : Patch) : Type 0 where
  pub document : Document
  pub spelled : SpellsDocument document payload
  pub shows : IsDocumentPatch view named h document c patch

pub data IsReadPatch (view : View) (named : List NamedColour) (h : Height) (payload : List ℕ) (c : ChunkPos) (patch : Patch) : Type 0 where
  good : IsPayloadPatch view named h payload c patch → IsReadPatch view named h payload c patch
  bad : (e : Fault) → e ≢ OutOfMemory → IsPayloadFault c h payload first_states e → patch ≡ Unread → IsReadPatch view named h payload c patch
