-- Working definitions of the writer, shaped like the code. No public clause cites them.
use Rattle.std.specs.Prelude.{ℕ, ℤ, pos, ◌-ℤ◌, List, map, codes, Option, true, IsSome, IfSome, ◌≡◌, ◌<◌}
use Rattle.std.specs.Int.{w32}
use Rattle.std.specs.Int.RustNames.{FitsSigned}
use Rattle.std.specs.List.{range_with_len}
use Rattle.av_types.specs.Division.{divided}
use Rattle.av_types.specs.Positions.{is_section_of}
use Rattle.av_rules.specs.Kinds.{kind_count}
use Rattle.av_types.specs.declared.tick.Entry.{Entry}
use Rattle.av_types.specs.declared.position.Pos.{Pos}
use Rattle.av_document.specs.Ticks.{lies_in}
use Rattle.av_chunk.specs.Reading.{HasAllSections}
use Rattle.av_chunk.specs.Light.{section_count}
use Rattle.av_tags.specs.Nbt.{Nbt, NamedTag, byte_array}
use Rattle.av_tags.specs.ByName.{with_tag}
use Rattle.av_state.specs.BlockState.{BlockState}
use Rattle.av_rules.specs.declared.kinds.Kinds.{Kinds}
use Rattle.av_document.specs.Chunk.{SectionRest}
use Rattle.av_document.specs.Layout.{states_layout, compound_with, section_layout, block_at, section_at, all_of, entry_layout}
use Rattle.av_chunk.specs.Views.{number_in, state_in, cells_of, rest_of}
use Rattle.av_codec.specs.Writing.{states_of_kinds, sources_of, light_of}
use Rattle.av_chunk.specs.declared.chunk.Chunk.{Chunk}
use Rattle.av_chunk.specs.declared.rest.ChunkRest.{ChunkRest}
use Rattle.av_chunk.specs.declared.light.ChunkLight.{ChunkLight}

-- the tags of a section, from the states of its places
abbrev pub section_with : SectionRest → List BlockState → List ℕ → List NamedTag
section_with rest states light = with_tag (codes "BlockLight") (byte_array light) (with_tag (codes "block_states") (states_layout rest.states states) rest.tags)

-- the tags of a section in the height
unfoldable pub inside_layout : Chunk → ChunkRest → Kinds → ChunkLight → ℤ → List NamedTag
inside_layout chunk rest kinds light y = section_layout ((rest_of rest).section y) (λ i. cells_of (states_of_kinds kinds) rest.height chunk (block_at rest.pos y i)) (light_of light rest.height y)

-- the section of a number
unfoldable pub written_section : Chunk → ChunkRest → Kinds → ChunkLight → ℤ → Option (List NamedTag)
written_section chunk rest kinds light = section_at rest.pos rest.height (cells_of (states_of_kinds kinds) rest.height chunk) (rest_of rest) (light_of light rest.height)

-- the number of a section, by its index among all that there can be
abbrev pub number_at : ℕ → ℤ
number_at i = pos i -ℤ pos 128

-- the first of the numbers that a section can have, so many
unfoldable pub first_numbers : ℕ → List ℤ
first_numbers n = map number_at (range_with_len 0 n)

-- the sections of the first numbers
abbrev pub first_sections : Chunk → ChunkRest → Kinds → ChunkLight → ℕ → List Nbt
first_sections chunk rest kinds light n = map compound_with (all_of (written_section chunk rest kinds light) (first_numbers n))

-- a water entry, written
abbrev pub written_entry : Chunk → ChunkRest → Kinds → ℕ → Entry → Nbt
written_entry chunk rest kinds elapsed e = compound_with (entry_layout (sources_of kinds rest.height chunk e.pos) elapsed e)

-- a chunk whose sections can be written
pub record CanWriteSections (chunk : Chunk) (rest : ChunkRest) (kinds : Kinds) (light : ChunkLight) : Type 0 where
  pub whole : HasAllSections rest.height chunk
  pub numbered : (p : Pos) → lies_in rest.pos rest.height p ≡ true → IsSome (state_in (states_of_kinds kinds) rest.height chunk p)
  pub lit : section_count light ≡ rest.height.sections

-- an entry that can be written: of a section in the height, at a number of the table, and with a time that fits an Int
pub record CanWriteEntry (chunk : Chunk) (rest : ChunkRest) (kinds : Kinds) (elapsed : ℕ) (e : Entry) : Type 0 where
  pub inside : is_section_of rest.height (divided e.pos.y 16) ≡ true
  pub below : IfSome (number_in rest.height chunk e.pos) (λ n. n < kind_count kinds)
  pub due : FitsSigned w32 (e.due -ℤ pos elapsed)
