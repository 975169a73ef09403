-- From a document to what stands at an index of a file.
use Rattle.std.proofs.Common.{ℕ, List, map, Option, Some, subst}
use Rattle.std.specs.List.{range_with_len}
use Rattle.av_types.specs.declared.position.ChunkPos.{ChunkPos}
use Rattle.av_types.specs.declared.position.Height.{Height}
use Rattle.av_tags.specs.Nbt.{Document}
use Rattle.av_region.specs.Region.{Holds}
use Rattle.av_state.specs.BlockState.{BlockState}
use Rattle.av_state.specs.StateList.{first_states}
use Rattle.av_ticks.specs.Ticks.{entries}
use Rattle.av_document.specs.Chunk.{root_tags}
use Rattle.av_chunk.specs.Reading.{IsLoaded}
use Rattle.av_chunk.specs.Views.{cells_of, rest_of}
use Rattle.av_chunk.specs.declared.chunk.Chunk.{Chunk}
use Rattle.av_chunk.specs.declared.rest.ChunkRest.{ChunkRest}
use Rattle.av_survey.proofs.Gathering.{first_at}
use Rattle.av_map.specs.Colours.{NamedColour}
use Rattle.av_map.specs.Looks.{look_of}
use Rattle.av_map.specs.Patches.{IsPatch, IsShown, kept, full, unread}
use Rattle.av_map.specs.Payloads.{IsDocumentPatch, document_kept, document_full, IsReadPatch, good, bad}
use Rattle.av_map.specs.Sections.{AreLightsFor, sight_by}
use Rattle.av_map.specs.declared.patch.Patch.{Patch}
use Rattle.av_map.specs.declared.view.View.{View}
use Rattle.av_map.proofs.Loaded.{sights_are}

-- a chunk in memory shows what its document does
pub document_from : (view : View) (named : List NamedColour) (c : ChunkPos) (h : Height) (d : Document) (new : List BlockState) (chunk : Chunk) (rest : ChunkRest)
    (lights : List (Option (List ℕ))) (patch : Patch) → IsLoaded c h d first_states new chunk rest → AreLightsFor view (root_tags d) h lights
    → IsShown patch (map (sight_by view chunk.sections.items (map (look_of named) new) lights) (range_with_len 0 256)) → IsDocumentPatch view named h d c patch
document_from view named c h d new chunk rest lights patch l are shown =
    document_full (cells_of new h chunk) (entries chunk.ticks) (rest_of rest) l.no_fault l.denotes (subst (IsShown patch) (sights_are view named c h d new chunk rest lights l are) shown)

-- what a payload shows is what its index does
pub patch_from : (view : View) (named : List NamedColour) (h : Height) (file payload : List ℕ) (c : ChunkPos) (index : ℕ) (patch : Patch) → Holds file index payload
    → IsReadPatch view named h payload c patch → IsPatch view named h file c index patch
patch_from view named h file payload c index patch holds (good g) = by_document g.shows
  where
    by_document : IsDocumentPatch view named h g.document c patch → IsPatch view named h file c index patch
    by_document (document_kept no_fault not_full is) = kept payload g.document holds g.spelled no_fault not_full is
    by_document (document_full cells water rest no_fault denotes shown) = full payload g.document cells water rest holds g.spelled no_fault denotes shown
patch_from view named h file payload c index patch holds (bad e other fault is) = unread e (first_at h file payload c index (Some e) holds fault) is
