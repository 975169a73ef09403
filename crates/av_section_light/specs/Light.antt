-- Block light over a world of blocks: which of them are loaded, and what the rows of their states say.
use Rattle.std.specs.Prelude.{◌≡◌, true}
use Rattle.av_types.specs.Positions.{chunk_of, is_block_of}
use Rattle.av_types.specs.declared.position.Pos.{Pos}
use Rattle.av_types.specs.declared.position.ChunkPos.{ChunkPos}
use Rattle.av_types.specs.declared.position.Height.{Height}
use Rattle.av_rules.specs.declared.kinds.Kinds.{Kinds}
use Rattle.av_rules.specs.Kinds.{row_at}
use Rattle.av_chunk.specs.Light.{section_count}
use Rattle.av_chunk.specs.declared.light.ChunkLight.{ChunkLight}
use Rattle.av_cells.specs.World.{World}
use Rattle.av_flood.specs.Light.{Terrain, IsLight}
use Rattle.av_section_light.specs.Sections.{half_byte}

-- a block gives and takes as much light as the row of its state says
abbrev pub terrain_of : Kinds → World → Terrain
terrain_of k w = record { loaded = w.loaded; emission = λ p. (row_at k (w.number p)).emission; opacity = λ p. (row_at k (w.number p)).opacity }

-- the light of a chunk: the half byte of each of its blocks is that of the block's brightest path in the whole world
pub record IsChunkLight (k : Kinds) (w : World) (h : Height) (c : ChunkPos) (l : ChunkLight) : Type 0 where
  pub sections : section_count l ≡ h.sections
  pub blocks : (p : Pos) → chunk_of p ≡ c → is_block_of h p.y ≡ true → IsLight (terrain_of k w) p (half_byte h l p)
