-- A world as the rule sees it, and its changes.
use Rattle.std.specs.Prelude.{Option, ℕ, List, [], ◌∷◌, ◌++◌, Bool, true, false, not, ◌&&◌, if◌then◌else◌}
use Rattle.av_types.specs.declared.position.Pos.{Pos}
use Rattle.av_types.specs.declared.position.ChunkPos.{ChunkPos}
use Rattle.av_types.specs.declared.position.Height.{Height}
use Rattle.av_types.specs.declared.tick.Entry.{Entry}
use Rattle.av_types.specs.Positions.{chunk_of}
use Rattle.av_cells.specs.Positions.{same_pos, same_chunk}

-- which blocks are loaded, the number of each one's state, and which have an entry that waits
pub record World : Type 0 where
  pub loaded : Pos → Bool
  pub number : Pos → ℕ
  pub pending : Pos → Bool

-- one block set
abbrev pub with_number : World → Pos → ℕ → World
with_number w p n =
    record {
      loaded = w.loaded;
      number = λ q. if same_pos q p then n else w.number q;
      pending = w.pending;
    }

-- the entry's block pending, if the test holds (it stands inside the fields, so that what is not changed stays by computing)
abbrev pub with_entry_if : Bool → World → Entry → World
with_entry_if b w e =
    record {
      loaded = w.loaded;
      number = w.number;
      pending = λ q. if b && same_pos q e.pos then true else w.pending q;
    }

-- the entry's block pending
abbrev pub with_entry : World → Entry → World
with_entry w e = with_entry_if (not (w.pending e.pos)) w e

-- the entry's block pending no longer
abbrev pub without_entry : World → Entry → World
without_entry w e =
    record {
      loaded = w.loaded;
      number = w.number;
      pending = λ q. if same_pos q e.pos then false else w.pending q;
    }

-- the entries of each chunk, in order
abbrev pub Lists : Type 0
Lists = ChunkPos → List Entry

-- an entry at the end of its chunk's list, if the test holds
abbrev pub listed_if : Bool → Lists → Entry → Lists
listed_if b lists e c = if b && same_chunk c (chunk_of e.pos) then lists c ++ e ∷ [] else lists c

-- these entries at the ends of their chunks' lists, in order
abbrev pub listed_all : Lists → List Entry → Lists
listed_all lists [] = lists
listed_all lists (e ∷ es) = listed_all (listed_if true lists e) es

-- what a world has besides blocks and lists: its height, its chunks in the order (z, x), and whether it is broken
pub record Site : Type 0 where
  pub height : Option Height
  pub chunks : List ChunkPos
  pub broken : Bool
