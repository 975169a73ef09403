-- Entries appended one after the other. Working definitions: no public clause cites them.
use Rattle.std.specs.Prelude.{◌≡◌, ◌≤◌, ◌+◌, ℕ, true, false, IsTrue, nat_eq, if◌then◌else◌, List, [], ◌∷◌}
use Rattle.av_types.specs.Positions.{chunk_of}
use Rattle.av_types.specs.declared.position.Pos.{Pos}
use Rattle.av_types.specs.declared.position.ChunkPos.{ChunkPos}
use Rattle.av_types.specs.declared.tick.Entry.{Entry}
use Rattle.av_cells.specs.Positions.{same_chunk}
use Rattle.av_cells.specs.World as cells
use Rattle.av_cells.specs.World.{with_entry_if}
use Rattle.av_world.specs.Index.{slot}
use Rattle.av_world.specs.Views.{blocks, room}
use Rattle.av_world.specs.declared.worlds.World.{World}

-- the blocks of these entries pending, one after the other
abbrev pub entered_all : cells.World → List Entry → cells.World
entered_all w [] = w
entered_all w (e ∷ es) = entered_all (with_entry_if true w e) es

-- each is of a loaded block of which no entry waits, also none of those before it
abbrev pub CanAppend : cells.World → List Entry → Type 0
CanAppend w [] = Unit {0}
CanAppend w (e ∷ es) = IsTrue (w.loaded e.pos) × (w.pending e.pos ≡ false) × CanAppend (with_entry_if true w e) es

-- how many are of a chunk
abbrev pub count_in : ChunkPos → List Entry → ℕ
count_in c [] = 0
count_in c (e ∷ es) = (if same_chunk c (chunk_of e.pos) then 1 else 0) + count_in c es

-- how many are of the chunk at an index
abbrev pub count_at : List ChunkPos → ℕ → List Entry → ℕ
count_at ps k [] = 0
count_at ps k (e ∷ es) = (if nat_eq (slot ps (chunk_of e.pos)) k then 1 else 0) + count_at ps k es

-- each list has room for its own of these
abbrev pub HasRoomForAll : World → List Entry → Type 0
HasRoomForAll w es = (p : Pos) → IsTrue ((blocks w).loaded p) → count_in (chunk_of p) es ≤ room w (chunk_of p)
