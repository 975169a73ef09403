-- The block light of a world: at each loaded block that of its brightest path.
use Rattle.std.specs.Prelude.{◌≡◌, ℤ, length, true}
use Rattle.av_types.specs.Division.{divided}
use Rattle.av_types.specs.Positions.{chunk_of, place_of, is_section_of}
use Rattle.av_types.specs.declared.position.Pos.{Pos}
use Rattle.av_types.specs.declared.position.ChunkPos.{ChunkPos}
use Rattle.av_pack.specs.Nibbles.{nibble_at}
use Rattle.av_state.specs.BlockState.{BlockState}
use Rattle.av_rules.specs.Rows.{BlockTable, row_of}
use Rattle.av_flood.specs.Light.{Terrain, IsLight}
use Rattle.av_land.specs.Land.{Land, is_loaded}
use Rattle.av_files.specs.Layout.{Lights}

-- what light sees of it: which blocks are loaded, and the light that their states give and take by the table
abbrev pub terrain_by : BlockTable → Land BlockState → Terrain
terrain_by t w = record { loaded = is_loaded w; emission = λ p. (row_of t (w.at p)).emission; opacity = λ p. (row_of t (w.at p)).opacity }

pub record IsLit (t : BlockTable) (w : Land BlockState) (light : Lights) : Type 0 where
  pub bytes : (c : ChunkPos) (y : ℤ) → is_section_of w.height y ≡ true → length (light c y) ≡ 2048
  pub blocks : (p : Pos) → is_loaded w p ≡ true → IsLight (terrain_by t w) p (nibble_at (light (chunk_of p) (divided p.y 16)) (place_of p))
