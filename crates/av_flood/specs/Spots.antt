-- Blocks of a board with where their bytes stand. Working definitions: no public clause cites them.
use Rattle.std.specs.Prelude.{ℕ, ◌≡◌, ◌≤◌, ◌<◌, ◌+◌, ◌*◌, ◌%◌, ◌⊎◌, false}
use Rattle.av_types.specs.declared.position.Pos.{Pos}
use Rattle.av_types.specs.declared.position.ChunkPos.{ChunkPos}
use Rattle.av_types.specs.declared.position.Height.{Height}
use Rattle.av_flood.specs.declared.spots.Spot.{Spot}
use Rattle.av_flood.specs.declared.spots.Steps.{Steps}
use Rattle.av_flood.specs.Offsets.{IsNth, apart}
use Rattle.av_flood.specs.Board.{corner, is_on, IsOnBoard}
use Rattle.av_flood.specs.Quiet.{IsBeside}

-- a block beyond the board, and where a byte stands that says that no light is of use: beside the blocks, or at the board's ends
pub record IsEnd (c : ChunkPos) (h : Height) (p : Pos) (i : ℕ) : Type 0 where
  pub off : is_on c h p ≡ false
  pub less : i < 30976 * h.sections + 3872
  pub edge : IsBeside (30976 * h.sections + 1936) i ⊎ (14 ≤ apart (i % 1936))

-- its byte stands there, or it is beyond the board
abbrev pub IsSpot : ChunkPos → Height → Spot → Type 0
IsSpot c h s = IsOnBoard c h s.pos s.index ⊎ IsEnd c h s.pos s.index

-- so many blocks it is from the board's west, north and lower end
pub record AreSteps (c : ChunkPos) (h : Height) (p : Pos) (s : Steps) : Type 0 where
  pub x : IsNth (corner c h).x 44 p.x s.x
  pub z : IsNth (corner c h).z 44 p.z s.z
  pub y : IsNth (corner c h).y (16 * h.sections) p.y s.y
