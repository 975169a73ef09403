-- What a world has of one of its chunks.
use Rattle.std.specs.Prelude.{◌≡◌, length}
use Rattle.av_types.specs.Positions.{chunk_of_section}
use Rattle.av_types.specs.declared.position.ChunkPos.{ChunkPos}
use Rattle.av_types.specs.declared.position.SectionPos.{SectionPos}
use Rattle.av_ticks.specs.Ticks.{entries}
use Rattle.av_chunk.specs.declared.chunk.Chunk.{Chunk}
use Rattle.av_world.specs.Inserted.{chunk_grid}
use Rattle.av_world.specs.Views.{height_of, grid, lists}
use Rattle.av_world.specs.declared.worlds.World.{World}

-- x is the chunk at c: the world's sections and entries there are those of x
pub record IsChunkOf (w : World) (c : ChunkPos) (x : Chunk) : Type 0 where
  pub sections : (s : SectionPos) → chunk_of_section s ≡ c → grid w s ≡ chunk_grid (height_of w) x s
  pub entries_are : lists w c ≡ entries x.ticks
  pub count : length x.sections.items ≡ (height_of w).sections
