-- What a chunk is written from, and what its caller sees to.
use Rattle.std.specs.Int.{w32}
use Rattle.std.specs.Int.RustNames.{FitsSigned}
use Rattle.std.specs.Prelude.{◌≡◌, ℕ, ℤ, pos, ◌-ℤ◌, List, Option, Some, None, Bool, true, false, IsSome, map}
use Rattle.std.specs.List.{All}
use Rattle.av_types.specs.Water.{is_source}
use Rattle.av_types.specs.declared.position.Pos.{Pos}
use Rattle.av_types.specs.declared.position.Height.{Height}
use Rattle.av_tags.specs.Nbt.{Document}
use Rattle.av_state.specs.BlockState.{BlockState}
use Rattle.av_state.specs.Table.{states}
use Rattle.av_rules.specs.Kinds.{table_in, wet_at}
use Rattle.av_rules.specs.declared.kinds.Kinds.{Kinds}
use Rattle.av_ticks.specs.Ticks.{entries}
use Rattle.av_document.specs.Ticks.{lies_in}
use Rattle.av_document.specs.Chunk.{DenotesChunk}
use Rattle.av_document.specs.Layout.{chunk_layout}
use Rattle.av_document.specs.Law.{sooner}
use Rattle.av_types.specs.Positions.{section_index}
use Rattle.av_chunk.specs.Views.{number_in, state_in, cells_of, rest_of}
use Rattle.av_chunk.specs.Reading.{HasAllSections}
use Rattle.av_chunk.specs.Light.{section_count, light_section}
use Rattle.av_chunk.specs.declared.chunk.Chunk.{Chunk}
use Rattle.av_chunk.specs.declared.rest.ChunkRest.{ChunkRest}
use Rattle.av_chunk.specs.declared.light.ChunkLight.{ChunkLight}

-- the states by their numbers
abbrev pub states_of_kinds : Kinds → List BlockState
states_of_kinds k = states (table_in k)

-- whether a number's state holds a source; a soaked one does
abbrev pub is_source_number : Kinds → Option ℕ → Bool
is_source_number k None = false
is_source_number k (Some n) = is_source (wet_at k n)

-- which blocks of a chunk hold a source
abbrev pub sources_of : Kinds → Height → Chunk → Pos → Bool
sources_of k h chunk p = is_source_number k (number_in h chunk p)

-- the light of the section of a number
abbrev pub light_of : ChunkLight → Height → ℤ → List ℕ
light_of l h y = light_section l (section_index h y)

-- The document that a chunk is written as.
abbrev pub written : Chunk → ChunkRest → Kinds → ChunkLight → ℕ → Document
written chunk rest kinds light elapsed = chunk_layout rest.pos rest.height
    (cells_of (states_of_kinds kinds) rest.height chunk) (entries chunk.ticks) (sources_of kinds rest.height chunk)
    (rest_of rest) (light_of light rest.height) elapsed

-- A document of the chunk as it is now: its blocks, its entries sooner by the ticks that were run, and the rest.
abbrev pub DenotesSooner : Chunk → ChunkRest → Kinds → ℕ → Document → Type 0
DenotesSooner chunk rest kinds elapsed d =
    DenotesChunk rest.pos rest.height d (cells_of (states_of_kinds kinds) rest.height chunk) (map (sooner elapsed) (entries chunk.ticks)) (rest_of rest)

-- A chunk that can be written: no section is out, each number is of the table, each entry lies in the chunk and its time
-- fits an Int, and the light is that of the height's sections.
pub record CanWrite (chunk : Chunk) (rest : ChunkRest) (kinds : Kinds) (light : ChunkLight) (elapsed : ℕ) : Type 0 where
  pub whole : HasAllSections rest.height chunk
  pub numbered : (p : Pos) → lies_in rest.pos rest.height p ≡ true → IsSome (state_in (states_of_kinds kinds) rest.height chunk p)
  pub within : All (λ e. lies_in rest.pos rest.height e.pos ≡ true) (entries chunk.ticks)
  pub due : All (λ e. FitsSigned w32 (e.due -ℤ pos elapsed)) (entries chunk.ticks)
  pub lit : section_count light ≡ rest.height.sections
