-- What a chunk shows from above: its 256 columns, row by row from the north, each row from the west.
use Rattle.std.specs.Prelude.{◌≡◌, ℕ, ◌+◌, ◌*◌, ◌/◌, ◌%◌, pos, ◌+ℤ◌, List, map, Option, None, false}
use Rattle.std.specs.List.{range_with_len}
use Rattle.av_types.specs.declared.fault.Fault.{Fault}
use Rattle.av_types.specs.declared.position.ChunkPos.{ChunkPos}
use Rattle.av_types.specs.declared.position.Height.{Height}
use Rattle.av_types.specs.declared.position.Pos.{Pos}
use Rattle.av_types.specs.declared.tick.Entry.{Entry}
use Rattle.av_tags.specs.Nbt.{Document, NamedTag}
use Rattle.av_nbt.specs.Spelling.{SpellsDocument}
use Rattle.av_region.specs.Region.{IsAbsent, Holds}
use Rattle.av_state.specs.BlockState.{BlockState}
use Rattle.av_state.specs.StateList.{first_states}
use Rattle.av_document.specs.Chunk.{RestOfChunk, DenotesChunk, root_tags, first_fault, is_full}
use Rattle.av_document.specs.Layout.{block_at}
use Rattle.av_survey.specs.Survey.{IsFaultAlone}
use Rattle.av_map.specs.declared.look.Look.{Look}
use Rattle.av_map.specs.declared.patch.Patch.{Patch}
use Rattle.av_map.specs.declared.patch.Patch.TheVariants.{Clear, Unread, Shown}
use Rattle.av_map.specs.declared.sight.Sight.{Sight}
use Rattle.av_map.specs.declared.view.View.{View}
use Rattle.av_map.specs.declared.view.View.TheVariants.{Blocks, Light}
use Rattle.av_map.specs.Colours.{NamedColour}
use Rattle.av_map.specs.Looks.{look_of}
use Rattle.av_map.specs.Columns.{block_sight, light_sight}
use Rattle.av_map.specs.Light.{level_of}

-- block k of a column, from the lowest of the height up
abbrev pub block_in : ChunkPos → Height → ℕ → ℕ → Pos
block_in c h column k = block_at c (h.min_section +ℤ pos (k / 16)) (256 * (k % 16) + column)

-- the looks of a column
abbrev pub looks_in : List NamedColour → (Pos → BlockState) → ChunkPos → Height → ℕ → ℕ → Look
looks_in named cells c h column k = look_of named (cells (block_in c h column k))

-- what a column shows: the block, or the light on it
abbrev pub sight_in : View → List NamedColour → (Pos → BlockState) → List NamedTag → ChunkPos → Height → ℕ → Option Sight
sight_in Blocks named cells root c h column = block_sight (looks_in named cells c h column) (16 * h.sections)
sight_in Light named cells root c h column = light_sight (looks_in named cells c h column) (level_of root h column) (16 * h.sections)

abbrev pub sights_in : View → List NamedColour → (Pos → BlockState) → List NamedTag → ChunkPos → Height → List (Option Sight)
sights_in view named cells root c h = map (sight_in view named cells root c h) (range_with_len 0 256)

abbrev pub IsShown : Patch → List (Option Sight) → Type 0
IsShown Clear sights = ⊥
IsShown Unread sights = ⊥
IsShown (Shown v) sights = v.items ≡ sights

-- What stands at an index of a file shows. A chunk that is absent or not fully generated shows nothing, and one with a fault is not read.
-- Of any other the cells that its document denotes are seen. Its states are numbered alone.
pub data IsPatch (view : View) (named : List NamedColour) (h : Height) (file : List ℕ) (c : ChunkPos) (index : ℕ) (patch : Patch) : Type 0 where
  absent : IsAbsent file index → patch ≡ Clear → IsPatch view named h file c index patch
  unread : (e : Fault) → IsFaultAlone h file c index e → patch ≡ Unread → IsPatch view named h file c index patch
  kept : (payload : List ℕ) (d : Document) → Holds file index payload → SpellsDocument d payload → first_fault h c first_states (root_tags d) ≡ None
      → is_full (root_tags d) ≡ false → patch ≡ Clear → IsPatch view named h file c index patch
  full : (payload : List ℕ) (d : Document) (cells : Pos → BlockState) (water : List Entry) (rest : RestOfChunk) → Holds file index payload → SpellsDocument d payload
      → first_fault h c first_states (root_tags d) ≡ None → DenotesChunk c h d cells water rest
      → IsShown patch (sights_in view named cells (root_tags d) c h) → IsPatch view named h file c index patch
