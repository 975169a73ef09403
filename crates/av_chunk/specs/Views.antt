-- What a chunk in memory holds, and what its rest does.
use Rattle.std.specs.Prelude.{ℕ, ℤ, List, Option, Some, None, Bool, false, ◌&&◌, ◌==◌, slice_get, slice_index_or}
use Rattle.av_types.specs.Division.{divided}
use Rattle.av_types.specs.Positions.{place_of, section_index}
use Rattle.av_types.specs.declared.position.Pos.{Pos}
use Rattle.av_types.specs.declared.position.Height.{Height}
use Rattle.av_types.specs.declared.tick.Entry.{Entry}
use Rattle.av_types.specs.Options.{◌>>=◌}
use Rattle.av_tags.specs.Shape.{or_else}
use Rattle.av_state.specs.BlockState.{BlockState, air}
use Rattle.av_section.specs.Section.{number_at, is_pending}
use Rattle.av_section.specs.declared.section.Section.{Section}
use Rattle.av_document.specs.Chunk.{RestOfChunk}
use Rattle.av_chunk.specs.Rest.{rest_with}
use Rattle.av_chunk.specs.declared.chunk.Chunk.{Chunk}
use Rattle.av_chunk.specs.declared.rest.ChunkRest.{ChunkRest}

-- the section of a number, where it is not out
abbrev pub section_in : Height → Chunk → ℤ → Option Section
section_in h chunk y = slice_index_or chunk.sections.items (section_index h y) None

-- the number of a block's state
abbrev pub number_in : Height → Chunk → Pos → Option ℕ
number_in h chunk p = section_in h chunk (divided p.y 16) >>= λ s. Some (number_at s (place_of p))

-- a block's state, by a table of states
abbrev pub state_in : List BlockState → Height → Chunk → Pos → Option BlockState
state_in table h chunk p = number_in h chunk p >>= λ n. slice_get table n

abbrev pub cells_of : List BlockState → Height → Chunk → Pos → BlockState
cells_of table h chunk p = or_else air (state_in table h chunk p)

-- whether a scheduled tick is pending at a block, as its section says
abbrev pub pending_in : Height → Chunk → Pos → Bool
pending_in h chunk p = or_else false (section_in h chunk (divided p.y 16) >>= λ s. Some (is_pending s (place_of p)))

-- an entry lies in the section at an offset, at a place of it
abbrev pub is_entry_at : Height → ℕ → ℕ → Entry → Bool
is_entry_at h offset place e = (offset == section_index h (divided e.pos.y 16)) && (place == place_of e.pos)

abbrev pub rest_of : ChunkRest → RestOfChunk
rest_of r = rest_with r.height r.name.items r.tags.items r.foreign.items r.sections.items r.outside.items
