-- The blocks of a world's chunks that give light, a list for each chunk in the order of its positions.
use Rattle.std.specs.Prelude.{◌≡◌, ◌<◌, ◌≤ℤ◌, ◌-ℤ◌, ℤ, pos, negsuc, List, [], true, IsTrue, slice_index_or}
use Rattle.std.specs.List.{list_any}
use Rattle.av_types.specs.Positions.{chunk_of, same_pos}
use Rattle.av_types.specs.declared.position.Pos.{Pos}
use Rattle.av_types.specs.declared.position.ChunkPos.{ChunkPos}
use Rattle.av_rules.specs.declared.kinds.Kinds.{Kinds}
use Rattle.av_world.specs.Index.{slot}
use Rattle.av_world.specs.Views.{positions_of, blocks}
use Rattle.av_world.specs.declared.worlds.World.{World}
use Rattle.av_section_light.specs.Light.{terrain_of}

-- the list of a chunk, by where it stands
abbrev pub lamps_at : World → List (List Pos) → ChunkPos → List Pos
lamps_at w lists c = slice_index_or lists (slot (positions_of w) c) []

-- each is in the list of its chunk
pub record AreLamps (k : Kinds) (w : World) (lists : List (List Pos)) : Type 0 where
  pub has : (p : Pos) → IsTrue ((blocks w).loaded p) → 0 < (terrain_of k (blocks w)).emission p → list_any (same_pos p) (lamps_at w lists (chunk_of p)) ≡ true

-- at most one chunk west or east, and one north or south
pub record IsStep (x z : ℤ) : Type 0 where
  pub west : negsuc 0 ≤ℤ x
  pub east : x ≤ℤ pos 1
  pub north : negsuc 0 ≤ℤ z
  pub south : z ≤ℤ pos 1

-- a chunk is one of the nine around another
abbrev pub IsBeside : ChunkPos → ChunkPos → Type 0
IsBeside c d = IsStep (d.x -ℤ c.x) (d.z -ℤ c.z)
