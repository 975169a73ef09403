-- Worlds of numbers below a count, whose entries are as a chunk can have them.
use Rattle.std.specs.Int.{w32}
use Rattle.std.specs.Int.RustNames.{FitsSigned}
use Rattle.std.specs.Prelude.{◌≡◌, ℕ, ◌<◌, ◌≤◌, pos, negsuc, ◌+ℤ◌, ◌≤ℤ◌, List, [], Bool, true, false}
use Rattle.std.specs.List.{AllByRecursion}
use Rattle.av_types.specs.Positions.{chunk_of}
use Rattle.av_types.specs.declared.position.Pos.{Pos}
use Rattle.av_types.specs.declared.position.ChunkPos.{ChunkPos}
use Rattle.av_types.specs.declared.tick.Entry.{Entry}
use Rattle.av_ticks.specs.Entries.{are_apart}
use Rattle.av_cells.specs.Positions.{same_chunk}
use Rattle.av_cells.specs.declared.kind.Kind.{Kind}
use Rattle.av_land.specs.Land.{Land, has_chunk, is_loaded}
use Rattle.av_cells.specs.Sets.{Set}
use Rattle.av_land.specs.Tick.{run}

-- the entry lies in the chunk, and the test holds of it
pub record IsEntryOf (Q : Entry → Type 0) (loaded : Pos → Bool) (c : ChunkPos) (e : Entry) : Type 0 where
  pub here : same_chunk c (chunk_of e.pos) ≡ true
  pub there : loaded e.pos ≡ true
  pub holds : Q e

pub record Good (count : ℕ) (Q : Entry → Type 0) (w : Land ℕ) : Type 0 where
  pub numbers : (p : Pos) → w.at p < count
  pub unloaded : (p : Pos) → is_loaded w p ≡ false → w.at p ≡ 0
  pub none : (c : ChunkPos) → has_chunk w.chunks c ≡ false → w.lists c ≡ []
  pub entries : (c : ChunkPos) → AllByRecursion (IsEntryOf Q (is_loaded w) c) (w.lists c)
  pub apart : (c : ChunkPos) → are_apart (w.lists c) ≡ true

-- Entries that a file can hold after so many ticks: their numbers are Ints, and due times less the ticks too.
pub record IsTimely (ticks : ℕ) (e : Entry) : Type 0 where
  pub int_x : FitsSigned w32 e.pos.x
  pub int_y : FitsSigned w32 e.pos.y
  pub int_z : FitsSigned w32 e.pos.z
  pub int_priority : FitsSigned w32 e.priority
  pub late : (negsuc 2147483647 +ℤ pos ticks) ≤ℤ e.due
  pub soon : e.due ≤ℤ pos 2147483647

-- each loaded block has coordinates that are Ints
abbrev pub HasIntCoordinates : Land ℕ → Type 0
HasIntCoordinates w = (p : Pos) → is_loaded w p ≡ true → FitsSigned w32 p.x × FitsSigned w32 p.y × FitsSigned w32 p.z

-- an edit of a loaded block to one of so many numbers
pub record IsSetOf (count : ℕ) (w : Land ℕ) (e : Set ℕ) : Type 0 where
  pub number : e.what < count
  pub there : is_loaded w e.pos ≡ true

-- Ticks keep what a world needs to be written.
abbrev pub RunKeeps : Type 0
RunKeeps = (k : ℕ → Kind) (count : ℕ) (es : List (Set ℕ)) (n : ℕ) (w : Land ℕ) → 10 ≤ count → n ≤ 1000000 → HasIntCoordinates w → AllByRecursion (IsSetOf count w) es
    → Good count (IsTimely 0) w → Good count (IsTimely n) (run k es n w)
