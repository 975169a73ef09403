-- A section as part of a world's grid, and where the light of a block stands.
use Rattle.std.specs.Prelude.{ℕ, Option, Some, None}
use Rattle.av_types.specs.Division.{divided}
use Rattle.av_types.specs.Positions.{place_of, section_index}
use Rattle.av_types.specs.declared.position.Pos.{Pos}
use Rattle.av_types.specs.declared.position.Height.{Height}
use Rattle.av_pack.specs.Nibbles.{nibble_at}
use Rattle.av_section.specs.Section.{number_at, is_pending}
use Rattle.av_section.specs.declared.section.Section.{Section}
use Rattle.av_chunk.specs.Light.{light_section}
use Rattle.av_chunk.specs.declared.light.ChunkLight.{ChunkLight}
use Rattle.av_cells.specs.Grid.{Filling}

abbrev pub filling_of : Section → Filling
filling_of s = record { number = number_at s; pending = is_pending s }

abbrev pub filling_in : Option Section → Option Filling
filling_in None = None
filling_in (Some s) = Some (filling_of s)

-- the half byte of a block, by its section and its place there
abbrev pub half_byte : Height → ChunkLight → Pos → ℕ
half_byte h l p = nibble_at (light_section l (section_index h (divided p.y 16))) (place_of p)
