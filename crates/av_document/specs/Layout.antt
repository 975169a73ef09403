-- The document that a loaded chunk is written as (minecraft.wiki, "Chunk format").
use Rattle.std.specs.Prelude.{ℕ, zero, suc, ◌%◌, ◌/◌, ℤ, pos, negsuc, ◌+ℤ◌, ◌*ℤ◌, ◌-ℤ◌, List, [], ◌∷◌, ◌++◌, Option, Some, None, Bool, if◌then◌else◌, codes, map}
use Rattle.std.specs.List.{flat_map, range_with_len}
use Rattle.av_types.specs.Positions.{is_section_of}
use Rattle.av_types.specs.declared.position.Pos.{Pos}
use Rattle.av_types.specs.declared.position.ChunkPos.{ChunkPos}
use Rattle.av_types.specs.declared.position.Height.{Height}
use Rattle.av_types.specs.declared.tick.Entry.{Entry}
use Rattle.av_tags.specs.declared.tag.TagType.TheVariants as tag_type
use Rattle.av_tags.specs.Nbt.{Nbt, int, text, byte_array, list, compound, NamedTag, Document, members_of, items_of}
use Rattle.av_tags.specs.ByName.{with_tag}
use Rattle.av_state.specs.BlockState.{BlockState}
use Rattle.av_section.specs.BlockStates.{palette_tag, data_tag}
use Rattle.av_document.specs.Chunk.{SectionRest, RestOfChunk}

-- a Compound of these tags
abbrev pub compound_with : List NamedTag → Nbt
compound_with ms = compound (members_of ms)

-- a List of Compounds
abbrev pub compounds : List (List NamedTag) → Nbt
compounds rows = list tag_type.Compound (items_of (map compound_with rows))

-- ---- sections

abbrev pub data_tags : Option Nbt → List NamedTag
data_tags None = []
data_tags (Some t) = record { name = codes "data"; tag = t } ∷ []

-- a palette, indices where it has more than one entry, and the other tags
abbrev pub states_layout : List NamedTag → List BlockState → Nbt
states_layout others states = compound_with (record { name = codes "palette"; tag = palette_tag states } ∷ data_tags (data_tag states) ++ others)

-- the states of a section's 4,096 places
abbrev pub states_of : (ℕ → BlockState) → List BlockState
states_of cell = map cell (range_with_len 0 4096)

-- the tags of a section, from its rest, the state of each place and its light of 2,048 bytes
abbrev pub section_layout : SectionRest → (ℕ → BlockState) → List ℕ → List NamedTag
section_layout rest cell light = with_tag (codes "BlockLight") (byte_array light) (with_tag (codes "block_states") (states_layout rest.states (states_of cell)) rest.tags)

-- so many numbers below 0, rising to -1
abbrev pub below_zero : ℕ → List ℤ
below_zero zero = []
below_zero (suc n) = negsuc n ∷ below_zero n

-- each number that a section can have, rising
abbrev pub section_numbers : List ℤ
section_numbers = below_zero 128 ++ map pos (range_with_len 0 128)

-- a block by its section and its place there
abbrev pub block_at : ChunkPos → ℤ → ℕ → Pos
block_at c y i = record { x = c.x *ℤ pos 16 +ℤ pos (i % 16); y = y *ℤ pos 16 +ℤ pos (i / 256); z = c.z *ℤ pos 16 +ℤ pos (i / 16 % 16) }

-- the section of a number: always there in the height, and out of it as it was read
abbrev pub section_at : ChunkPos → Height → (Pos → BlockState) → RestOfChunk → (ℤ → List ℕ) → ℤ → Option (List NamedTag)
section_at c h cells rest light y = if is_section_of h y then Some (section_layout (rest.section y) (λ i. cells (block_at c y i)) (light y)) else rest.outside y

abbrev pub kept_section : Option (List NamedTag) → List (List NamedTag)
kept_section None = []
kept_section (Some ms) = ms ∷ []

abbrev pub all_of : (ℤ → Option (List NamedTag)) → List ℤ → List (List NamedTag)
all_of f ys = flat_map (λ y. kept_section (f y)) ys

-- ---- scheduled ticks

abbrev pub fluid_name : Bool → List ℕ
fluid_name source = if source then codes "minecraft:water" else codes "minecraft:flowing_water"

-- a water entry, after so many ticks were run
abbrev pub entry_layout : Bool → ℕ → Entry → List NamedTag
entry_layout source elapsed e =
    record { name = codes "i"; tag = text (fluid_name source) } ∷
    record { name = codes "x"; tag = int e.pos.x } ∷ record { name = codes "y"; tag = int e.pos.y } ∷ record { name = codes "z"; tag = int e.pos.z } ∷
    record { name = codes "t"; tag = int (e.due -ℤ pos elapsed) } ∷ record { name = codes "p"; tag = int e.priority } ∷ []

abbrev pub ticks_layout : (Pos → Bool) → List (List NamedTag) → List Entry → ℕ → Nbt
ticks_layout sources others water elapsed = compounds (others ++ map (λ e. entry_layout (sources e.pos) elapsed e) water)

-- ---- the whole

-- From the states of its blocks, its water entries, which blocks hold a source, its rest, and for each section in the height its light.
abbrev pub chunk_layout : ChunkPos → Height → (Pos → BlockState) → List Entry → (Pos → Bool) → RestOfChunk → (ℤ → List ℕ) → ℕ → Document
chunk_layout c h cells water sources rest light elapsed = record {
  name = rest.name;
  members = members_of (with_tag (codes "fluid_ticks") (ticks_layout sources rest.foreign water elapsed)
      (with_tag (codes "sections") (compounds (all_of (section_at c h cells rest light) section_numbers)) rest.tags));
}
