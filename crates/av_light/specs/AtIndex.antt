-- The light of the chunk that stands at an index. A working definition: no public clause cites it.
use Rattle.std.specs.Prelude.{ℕ, ◌<◌, length, slice_index_or}
use Rattle.av_types.specs.declared.position.ChunkPos.{ChunkPos}
use Rattle.av_chunk.specs.declared.light.ChunkLight.{ChunkLight}
use Rattle.av_rules.specs.declared.kinds.Kinds.{Kinds}
use Rattle.av_world.specs.Views.{height_of, positions_of, blocks}
use Rattle.av_world.specs.declared.worlds.World.{World}
use Rattle.av_section_light.specs.Light.{IsChunkLight}

-- the light of the chunk that stands there
pub record IsChunkLightAt (k : Kinds) (w : World) (i : ℕ) (l : ChunkLight) : Type 0 where
  pub within : i < length (positions_of w)
  pub light : (d : ChunkPos) → IsChunkLight k (blocks w) (height_of w) (slice_index_or (positions_of w) i d) l
