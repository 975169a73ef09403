-- Stretches of entries that lie in one tile of chunks.
use Rattle.std.specs.Prelude.{ℕ, ◌+◌, pos, ◌+ℤ◌, ◌*ℤ◌, Bool, true, not, ◌&&◌, List, [], ◌∷◌, Option, Some, None, if◌then◌else◌}
use Rattle.std.specs.Ordering.{int_eq}
use Rattle.av_types.specs.Division.{divided}
use Rattle.av_types.specs.Positions.{chunk_of}
use Rattle.av_types.specs.declared.position.ChunkPos.{ChunkPos}
use Rattle.av_types.specs.declared.tick.Entry.{Entry}
use Rattle.av_groups.specs.declared.stretches.Tile.{Tile}

-- A tile is four chunks of a row side by side. Each row of tiles is shifted by half a tile against the next.
abbrev pub tile_of : ChunkPos → Tile
tile_of c = record { column = divided (c.x +ℤ pos 2 *ℤ c.z) 4; row = c.z }

abbrev pub same_tile : Tile → Tile → Bool
same_tile s t = int_eq s.column t.column && int_eq s.row t.row

-- whether a stretch begins at an entry of the tile t, behind one of the tile before
abbrev pub begins : Option Tile → Tile → Bool
begins None t = true
begins (Some s) t = not (same_tile s t)

-- how many stretches begin in these entries, behind an entry of the tile before
abbrev pub stretches_behind : Option Tile → List Entry → ℕ
stretches_behind before [] = 0
stretches_behind before (e ∷ es) = (if begins before (tile_of (chunk_of e.pos)) then 1 else 0) + stretches_behind (Some (tile_of (chunk_of e.pos))) es

abbrev pub stretch_count : List Entry → ℕ
stretch_count es = stretches_behind None es
