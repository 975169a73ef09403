-- Chunks that are lent out of a world, and taken back.
use Rattle.std.specs.Prelude.{◌≡◌, None, [], if◌then◌else◌, length}
use Rattle.std.specs.List.{All}
use Rattle.av_types.specs.Positions.{chunk_of_section}
use Rattle.av_types.specs.declared.position.ChunkPos.{ChunkPos}
use Rattle.av_types.specs.declared.position.SectionPos.{SectionPos}
use Rattle.av_types.specs.declared.position.Height.{Height}
use Rattle.av_ticks.specs.Ticks.{entries}
use Rattle.av_chunk.specs.declared.chunk.Chunk.{Chunk}
use Rattle.av_land.specs.Land.{has_chunk}
use Rattle.av_world.specs.Inserted.{chunk_grid, with_chunk, with_list}
use Rattle.av_world.specs.Views.{height_of, positions_of, is_broken, grid, lists}
use Rattle.av_world.specs.declared.worlds.World.{World}

-- the chunk at c is another, and all else is as it was
pub record IsExchanged (old new : World) (c : ChunkPos) (x : Chunk) : Type 0 where
  pub grid_is : grid new ≡ with_chunk (grid old) c (chunk_grid (height_of old) x)
  pub lists_are : lists new ≡ with_list (lists old) c (entries x.ticks)
  pub height_is : height_of new ≡ height_of old
  pub positions_are : positions_of new ≡ positions_of old
  pub broken_is : is_broken new ≡ is_broken old

-- all sections of the height are out, and there is no entry
pub record IsBare (h : Height) (x : Chunk) : Type 0 where
  pub count : length x.sections.items ≡ h.sections
  pub out : All (λ o. o ≡ None) x.sections.items
  pub no_entry : entries x.ticks ≡ []

-- The world lent has the sections and entries that old has in lent's chunks, and nothing else; new has all but these.
pub record IsLent (old new lent : World) : Type 0 where
  pub lent_grid : (s : SectionPos) → grid lent s ≡ (if has_chunk (positions_of lent) (chunk_of_section s) then grid old s else None)
  pub lent_lists : (c : ChunkPos) → lists lent c ≡ (if has_chunk (positions_of lent) c then lists old c else [])
  pub left_grid : (s : SectionPos) → grid new s ≡ (if has_chunk (positions_of lent) (chunk_of_section s) then None else grid old s)
  pub left_lists : (c : ChunkPos) → lists new c ≡ (if has_chunk (positions_of lent) c then [] else lists old c)
  pub lent_height : height_of lent ≡ height_of old
  pub height_is : height_of new ≡ height_of old
  pub positions_are : positions_of new ≡ positions_of old
  pub broken_is : is_broken new ≡ is_broken old

-- new has the sections and entries of lent in lent's chunks, and all else as old
pub record IsTakenBack (old new lent : World) : Type 0 where
  pub grid_is : (s : SectionPos) → grid new s ≡ (if has_chunk (positions_of lent) (chunk_of_section s) then grid lent s else grid old s)
  pub lists_are : (c : ChunkPos) → lists new c ≡ (if has_chunk (positions_of lent) c then lists lent c else lists old c)
  pub height_is : height_of new ≡ height_of old
  pub positions_are : positions_of new ≡ positions_of old
  pub broken_is : is_broken new ≡ is_broken old
