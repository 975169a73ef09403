-- What the reader of a chunk's scheduled ticks answers. Working definitions: no public clause cites them.
use Rattle.std.specs.Prelude.{◌≡◌, ◌≢◌, ℕ, List, [], ◌∷◌, ◌++◌, Option, true, false, if◌then◌else◌}
use Rattle.std.specs.List.{list_any, flat_map}
use Rattle.av_types.specs.Faults.{least, IsRefusal}
use Rattle.av_state.specs.BlockState.{BlockState}
use Rattle.av_section.specs.BlockStates.{when}
use Rattle.av_document.specs.Chunk.{section_faults, section_states}
use Rattle.av_codec.specs.SectionsRead.{are_too_many}
use Rattle.av_types.specs.declared.position.ChunkPos.{ChunkPos}
use Rattle.av_types.specs.declared.position.Height.{Height}
use Rattle.av_types.specs.declared.fault.Fault.{Fault}
use Rattle.av_types.specs.declared.fault.Fault.TheVariants.{OutOfMemory, BadTick}
use Rattle.av_tags.specs.Nbt.{Nbt, NamedTag}
use Rattle.av_tags.specs.Shape.{lacks}
use Rattle.av_tags.specs.View.{views}
use Rattle.av_ticks.specs.Ticks.{entries}
use Rattle.av_document.specs.Ticks.{is_bad_tick, water_entry, with_entry, with_water, foreign}
use Rattle.av_codec.specs.declared.reading.water.Ticks.{Ticks}
use Rattle.av_codec.specs.Working.{has_other, tags_in}
use Rattle.av_chunk.specs.Rest.{opened}

pub record AreTicks (c : ChunkPos) (h : Height) (rows : List (List NamedTag)) (t : Ticks) : Type 0 where
  pub good : list_any (is_bad_tick c h) rows ≡ false
  pub water : entries t.water ≡ with_water [] rows
  pub foreign_are : opened (views t.foreign.items) ≡ foreign rows
  pub compounds : has_other (views t.foreign.items) ≡ false

-- one more tick: its water entry, or the tick itself where it is no water
pub record IsTickAdded (c : ChunkPos) (h : Height) (t : Nbt) (old new : Ticks) : Type 0 where
  pub good : is_bad_tick c h (tags_in t) ≡ false
  pub water : entries new.water ≡ with_entry (entries old.water) (water_entry (tags_in t))
  pub foreign_are : views new.foreign.items ≡ views old.foreign.items ++ (if lacks (water_entry (tags_in t)) then t ∷ [] else [])

pub record AreBadTicks (c : ChunkPos) (h : Height) (rows : List (List NamedTag)) (e : Fault) : Type 0 where
  pub is : e ≢ OutOfMemory → e ≡ BadTick
  pub bad : e ≢ OutOfMemory → list_any (is_bad_tick c h) rows ≡ true

-- of the sections and the ticks, the first fault that holds
abbrev pub parts_judged : ChunkPos → Height → List (List NamedTag) → List (List NamedTag) → List BlockState → Option ℕ
parts_judged c h rows ticks old =
    least ((flat_map (section_faults h) rows ++ when (list_any (is_bad_tick c h) ticks) 16) ++ when (are_too_many old (flat_map (section_states h) rows)) 18)

abbrev pub ArePartsRefused : ChunkPos → Height → List (List NamedTag) → List (List NamedTag) → List BlockState → Fault → Type 0
ArePartsRefused c h rows ticks old = IsRefusal (parts_judged c h rows ticks old)
