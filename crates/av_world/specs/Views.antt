-- A world as sections, as blocks and as lists of entries.
use Rattle.std.specs.Prelude.{◌≡◌, ◌≤◌, ℕ, Bool, List, Option, Some}
use Rattle.av_types.specs.declared.position.ChunkPos.{ChunkPos}
use Rattle.av_types.specs.declared.position.SectionPos.{SectionPos}
use Rattle.av_types.specs.declared.position.Height.{Height}
use Rattle.av_section.specs.declared.section.Section.{Section}
use Rattle.av_chunk.specs.declared.chunk.Chunk.{Chunk}
use Rattle.av_cells.specs.World as cells
use Rattle.av_cells.specs.World.{Lists, Site}
use Rattle.av_cells.specs.Grid.{Grid, cells_of}
use Rattle.av_world.specs.Sections.{section_at, grid_of, lists_of, room_of, CanSetIn}
use Rattle.av_world.specs.declared.worlds.World.{World}

abbrev pub height_of : World → Height
height_of w = w.height

-- the positions of the chunks that were inserted, in the order (z, x)
abbrev pub positions_of : World → List ChunkPos
positions_of w = w.positions.items

-- the chunks at these positions
abbrev pub chunks_of : World → List Chunk
chunks_of w = w.chunks.items

abbrev pub is_broken : World → Bool
is_broken w = w.broken

-- the sections that are there: of those of the chunks, the ones that are not out
abbrev pub sections : World → SectionPos → Option Section
sections w = section_at w.height w.positions.items w.chunks.items

abbrev pub grid : World → Grid
grid w = grid_of w.height w.positions.items w.chunks.items

abbrev pub blocks : World → cells.World
blocks w = cells_of (grid w)

abbrev pub lists : World → Lists
lists w = lists_of w.positions.items w.chunks.items

abbrev pub room : World → ChunkPos → ℕ
room w = room_of w.positions.items w.chunks.items

abbrev pub site : World → Site
site w = record { height = Some w.height; chunks = w.positions.items; broken = w.broken }

abbrev pub CanSetAt : World → SectionPos → ℕ → Type 0
CanSetAt w s n = CanSetIn (sections w s) n

-- the same blocks and lists, and no less room
pub record IsWorldKept (old new : World) : Type 0 where
  pub height : new.height ≡ old.height
  pub positions : new.positions ≡ old.positions
  pub broken : new.broken ≡ old.broken
  pub grid_is : grid new ≡ grid old
  pub lists_are : lists new ≡ lists old
  pub room_grows : (c : ChunkPos) → room old c ≤ room new c
  pub prepared : (s : SectionPos) (n : ℕ) → CanSetAt old s n → CanSetAt new s n

-- all but the blocks: the same chunks in the same order, and the same lists
pub record IsSameButBlocks (old new : World) : Type 0 where
  pub height : new.height ≡ old.height
  pub positions : new.positions ≡ old.positions
  pub broken : new.broken ≡ old.broken
  pub lists_are : lists new ≡ lists old
