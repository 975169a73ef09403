-- The blocks of the chunk at x 0 and z 0, layer by layer, each layer row by row.
use Rattle.std.specs.Prelude.{ℕ, ◌+◌, ◌*◌, ℤ, pos, ◌+ℤ◌, ◌-ℤ◌, nat_abs, int_le, int_lt, List, slice_index, slice_index_or, Bool, false, ◌&&◌, if◌then◌else◌, filter}
use Rattle.av_types.specs.declared.position.Pos.{Pos}
use Rattle.av_types.specs.declared.tick.Entry.{Entry}
use Rattle.av_types.specs.Positions.{chunk_of}
use Rattle.av_cells.specs.Positions.{same_chunk}
use Rattle.av_cells.specs.World.{World, Lists}

-- a coordinate is one of so many from the lowest
abbrev pub is_in : ℤ → ℕ → ℤ → Bool
is_in low count x = int_le low x && int_lt x (low +ℤ pos count)

-- a block of so many layers, from the bottom up
abbrev pub is_there : ℤ → ℕ → Pos → Bool
is_there bottom layers p = is_in (pos 0) 16 p.x && is_in (pos 0) 16 p.z && is_in bottom layers p.y

-- its place in the list
abbrev pub slot : ℤ → Pos → ℕ
slot bottom p = 256 * nat_abs (p.y -ℤ bottom) + 16 * nat_abs p.z + nat_abs p.x

abbrev pub world_of : ℤ → ℕ → List ℕ → List Bool → World
world_of bottom layers numbers waiting =
    record {
      loaded = λ p. is_there bottom layers p;
      number = λ p. if is_there bottom layers p then slice_index numbers (slot bottom p) else 0;
      pending = λ p. if is_there bottom layers p then slice_index_or waiting (slot bottom p) false else false;
    }

-- the entries of each chunk, of all entries
abbrev pub lists_of : List Entry → Lists
lists_of entries c = filter (λ e. same_chunk c (chunk_of e.pos)) entries
