-- What the tags of one chunk say (minecraft.wiki, "Chunk format").
use Rattle.std.specs.Prelude.{◌≡◌, ℕ, ℤ, List, [], ◌∷◌, ◌++◌, Option, Some, None, Bool, true, false, not, codes, ◌&&◌, ◌||◌, is_some, if◌then◌else◌, nat_lt, length}
use Rattle.std.specs.List.{flat_map, list_any}
use Rattle.std.specs.Ordering.{int_eq}
use Rattle.std.specs.Str.{bytes_eq}
use Rattle.av_types.specs.Division.{divided}
use Rattle.av_types.specs.Positions.{is_section_of, place_of}
use Rattle.av_types.specs.Faults.{least}
use Rattle.av_types.specs.declared.position.Pos.{Pos}
use Rattle.av_types.specs.declared.position.ChunkPos.{ChunkPos}
use Rattle.av_types.specs.declared.position.Height.{Height}
use Rattle.av_types.specs.declared.tick.Entry.{Entry}
use Rattle.av_tags.specs.Nbt.{Nbt, byte, NamedTag, Document}
use Rattle.av_tags.specs.ByName.{tag_of, without, emptied}
use Rattle.av_types.specs.Options.{◌>>=◌}
use Rattle.av_tags.specs.Shape.{members_in, text_of, byte_of, compound_of, compounds_of, lacks, or_else}
use Rattle.av_state.specs.BlockState.{BlockState, air}
use Rattle.av_state.specs.StateList.{with_states, most_states}
use Rattle.av_section.specs.BlockStates.{when, states_faults, read_states, state_at}
use Rattle.av_document.specs.Ticks.{lies_in, is_bad_tick, int_at, with_water, foreign}

-- ---- the parts of a root

abbrev pub root_tags : Document → List NamedTag
root_tags d = members_in d.members

-- a layout from before 1.18
abbrev pub has_level : List NamedTag → Bool
has_level root = is_some (tag_of (codes "Level") root)

abbrev pub status_of : List NamedTag → Option (List ℕ)
status_of root = tag_of (codes "Status") root >>= text_of

-- the `Status` of a chunk that is to be loaded; every other is kept
abbrev pub is_full_name : List ℕ → Bool
is_full_name s = bytes_eq s (codes "full") || bytes_eq s (codes "minecraft:full")

abbrev pub is_full : List NamedTag → Bool
is_full root = is_full_name (or_else [] (status_of root))

abbrev pub sections_of : List NamedTag → Option (List (List NamedTag))
sections_of root = tag_of (codes "sections") root >>= compounds_of

abbrev pub sections : List NamedTag → List (List NamedTag)
sections root = or_else [] (sections_of root)

-- no `fluid_ticks` are no ticks
abbrev pub ticks : List NamedTag → List (List NamedTag)
ticks root = or_else [] (tag_of (codes "fluid_ticks") root >>= compounds_of)

-- ---- the parts of a section

abbrev pub section_number : List NamedTag → Option ℤ
section_number ms = tag_of (codes "Y") ms >>= byte_of

abbrev pub is_in_height : Height → Option ℤ → Bool
is_in_height h None = false
is_in_height h (Some y) = is_section_of h y

abbrev pub is_number : ℤ → Option ℤ → Bool
is_number y None = false
is_number y (Some z) = int_eq y z

-- the section of a number
abbrev pub numbered : ℤ → List (List NamedTag) → Option (List NamedTag)
numbered y [] = None
numbered y (ms ∷ rows) = if is_number y (section_number ms) then Some ms else numbered y rows

-- the tags of the section of a number; one that is missing has its number alone
abbrev pub tags_at : ℤ → List NamedTag → List NamedTag
tags_at y root = or_else (record { name = codes "Y"; tag = byte y } ∷ []) (numbered y (sections root))

abbrev pub block_states_of : List NamedTag → Option (List NamedTag)
block_states_of ms = tag_of (codes "block_states") ms >>= compound_of

abbrev pub palette_tag_of : List NamedTag → Option Nbt
palette_tag_of states = tag_of (codes "palette") states

abbrev pub data_tag_of : List NamedTag → Option Nbt
data_tag_of states = tag_of (codes "data") states

-- ---- faults

-- the tag is there, and has another shape
abbrev pub is_other : {A : Type 0} → (Nbt → Option A) → Option Nbt → Bool
is_other shape None = false
is_other shape (Some t) = lacks (shape t)

-- A section has a number, and one in the height has a Compound as its `block_states`, or none.
abbrev pub is_bad_numbered : Height → List NamedTag → Option ℤ → Bool
is_bad_numbered h ms None = true
is_bad_numbered h ms (Some y) = is_section_of h y && is_other compound_of (tag_of (codes "block_states") ms)

abbrev pub is_bad_section : Height → List NamedTag → Bool
is_bad_section h ms = is_bad_numbered h ms (section_number ms)

-- one of them has the number
abbrev pub is_numbered_in : List (List NamedTag) → Option ℤ → Bool
is_numbered_in rows None = false
is_numbered_in rows (Some y) = is_some (numbered y rows)

-- two of them have the same number
abbrev pub share_a_number : List (List NamedTag) → Bool
share_a_number [] = false
share_a_number (ms ∷ rows) = is_numbered_in rows (section_number ms) || share_a_number rows

abbrev pub is_bad_list : Height → Option (List (List NamedTag)) → Bool
is_bad_list h None = true
is_bad_list h (Some rows) = list_any (is_bad_section h) rows || share_a_number rows

abbrev pub is_bad_chunk : Height → List NamedTag → Bool
is_bad_chunk h root = lacks (int_at (codes "xPos") root) || lacks (int_at (codes "zPos") root) || is_bad_list h (sections_of root) || is_other compounds_of (tag_of (codes "fluid_ticks") root)

abbrev pub is_at : ChunkPos → Option ℤ → Option ℤ → Bool
is_at c (Some x) (Some z) = int_eq x c.x && int_eq z c.z
is_at c _ _ = false

abbrev pub is_elsewhere : ChunkPos → List NamedTag → Bool
is_elsewhere c root = not (is_at c (int_at (codes "xPos") root) (int_at (codes "zPos") root))

abbrev pub block_faults : Option (List NamedTag) → List ℕ
block_faults None = []
block_faults (Some states) = states_faults (palette_tag_of states) (data_tag_of states)

-- those of a section in the height
abbrev pub section_faults : Height → List NamedTag → List ℕ
section_faults h ms = if is_in_height h (section_number ms) then block_faults (block_states_of ms) else []

abbrev pub block_palette : Option (List NamedTag) → List BlockState
block_palette None = []
block_palette (Some states) = read_states (palette_tag_of states)

abbrev pub section_states : Height → List NamedTag → List BlockState
section_states h ms = if is_in_height h (section_number ms) then block_palette (block_states_of ms) else []

-- the states of all palettes, in the order of the file
abbrev pub all_states : Height → List NamedTag → List BlockState
all_states h root = flat_map (section_states h) (sections root)

-- the numbers of the faults that hold of a chunk that is to be loaded
abbrev pub loaded_faults : Height → ChunkPos → List NamedTag → List ℕ
loaded_faults h c root =
    when (is_bad_chunk h root) 12 ++ when (is_elsewhere c root) 13 ++ flat_map (section_faults h) (sections root) ++ when (list_any (is_bad_tick c h) (ticks root)) 16

-- the numbers of the faults that hold of a chunk, in no order
abbrev pub faults : Height → ChunkPos → List NamedTag → List ℕ
faults h c root = when (has_level root) 11 ++ when (lacks (status_of root)) 12 ++ (if is_full root then loaded_faults h c root else [])

-- a loaded chunk whose states are too many for a table
abbrev pub has_too_many : Height → List BlockState → List NamedTag → Bool
has_too_many h table root = is_full root && nat_lt most_states (length (with_states table (all_states h root)))

-- the number of the first fault of a chunk that is read into a table
abbrev pub first_fault : Height → ChunkPos → List BlockState → List NamedTag → Option ℕ
first_fault h c table root = least (faults h c root ++ when (has_too_many h table root) 18)

-- ---- what it denotes

abbrev pub block_cell : Option (List NamedTag) → ℕ → BlockState
block_cell None place = air
block_cell (Some states) place = state_at (palette_tag_of states) (data_tag_of states) place

-- the state of a block
abbrev pub cell_of : List NamedTag → Pos → BlockState
cell_of root p = block_cell (block_states_of (tags_at (divided p.y 16) root)) (place_of p)

-- all but cells and light of a section
pub record SectionRest : Type 0 where
  -- its tags, with `block_states` and `BlockLight` as empty tags
  pub tags : List NamedTag
  -- the tags of `block_states` other than `palette` and `data`
  pub states : List NamedTag

abbrev pub section_rest : List NamedTag → SectionRest
section_rest ms = record {
  tags = emptied (codes "BlockLight") (emptied (codes "block_states") ms);
  states = without (codes "data") (without (codes "palette") (or_else [] (block_states_of ms)));
}

-- all but cells, entries and light of a chunk
pub record RestOfChunk : Type 0 where
  -- the root's name and tags, with `sections` and `fluid_ticks` as empty tags
  pub name : List ℕ
  pub tags : List NamedTag
  -- the entries of `fluid_ticks` that are no water
  pub foreign : List (List NamedTag)
  -- the section of a number out of the height, as it was read
  pub outside : ℤ → Option (List NamedTag)
  -- the section of a number in the height
  pub section : ℤ → SectionRest

abbrev pub outside_at : Height → ℤ → List NamedTag → Option (List NamedTag)
outside_at h y root = if is_section_of h y then None else numbered y (sections root)

-- A loaded chunk, from the document of its position. It says nothing of positions out of the chunk.
pub record DenotesChunk (c : ChunkPos) (h : Height) (d : Document) (cells : Pos → BlockState) (water : List Entry) (rest : RestOfChunk) : Type 0 where
  pub no_fault : least (faults h c (root_tags d)) ≡ None
  pub full : is_full (root_tags d) ≡ true
  pub cells_are : (p : Pos) → lies_in c h p ≡ true → cells p ≡ cell_of (root_tags d) p
  pub water_is : water ≡ with_water [] (ticks (root_tags d))
  pub name_is : rest.name ≡ d.name
  pub tags_are : rest.tags ≡ emptied (codes "fluid_ticks") (emptied (codes "sections") (root_tags d))
  pub foreign_are : rest.foreign ≡ foreign (ticks (root_tags d))
  pub outside_is : (y : ℤ) → rest.outside y ≡ outside_at h y (root_tags d)
  pub section_is : (y : ℤ) → is_section_of h y ≡ true → rest.section y ≡ section_rest (tags_at y (root_tags d))
