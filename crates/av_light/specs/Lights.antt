-- The light of all chunks of a world.
use Rattle.std.specs.Prelude.{◌≡◌, List, Some, slice_get, IsTrue}
use Rattle.av_types.specs.Positions.{chunk_of}
use Rattle.av_types.specs.declared.position.Pos.{Pos}
use Rattle.av_chunk.specs.declared.light.ChunkLight.{ChunkLight}
use Rattle.av_rules.specs.declared.kinds.Kinds.{Kinds}
use Rattle.av_flood.specs.Light.{IsLight}
use Rattle.av_world.specs.Index.{slot}
use Rattle.av_world.specs.Views.{height_of, positions_of, blocks}
use Rattle.av_world.specs.declared.worlds.World.{World}
use Rattle.av_section_light.specs.Light.{terrain_of}
use Rattle.av_section_light.specs.Sections.{half_byte}

-- the half byte of each loaded block, in the light where its chunk stands, is that of the block's brightest path in the whole world
abbrev pub AreLit : Kinds → World → List ChunkLight → Type 0
AreLit k w ls = (p : Pos) (l : ChunkLight) → IsTrue ((blocks w).loaded p) → slice_get ls (slot (positions_of w) (chunk_of p)) ≡ Some l
    → IsLight (terrain_of k (blocks w)) p (half_byte (height_of w) l p)
