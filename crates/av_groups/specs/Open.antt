-- Groups of which the last is still open. Working definitions: no public clause cites them.
use Rattle.std.specs.Prelude.{◌≡◌, ℕ, ◌+◌, ◌≤◌, true, false, List, [], ◌∷◌, map, length, take, slice_get, Option, Some}
use Rattle.std.specs.List.{All, AllPairs, flat_map}
use Rattle.av_types.specs.Positions.{chunk_of}
use Rattle.av_types.specs.declared.position.Pos.{Pos}
use Rattle.av_types.specs.declared.position.ChunkPos.{ChunkPos}
use Rattle.av_types.specs.declared.tick.Entry.{Entry}
use Rattle.av_cells.specs.Positions.{same_chunk}
use Rattle.av_land.specs.Land.{Land, has_chunk, is_loaded}
use Rattle.av_play.specs.Corners.{corner}
use Rattle.av_world.specs.Index.{slot}
use Rattle.av_groups.specs.declared.groups.Group.{Group}
use Rattle.av_groups.specs.declared.groups.Touch.{Touch}
use Rattle.av_groups.specs.declared.corners.Reach.{Reach}
use Rattle.av_groups.specs.Groups.{NoneTouches, HasOwnIndex, AreCut, entries_in}
use Rattle.av_groups.specs.Exact.{IsExact, AreExact}
use Rattle.av_groups.specs.Parts.{StaysIn}

-- each block of the reach of p lies in a chunk of one of its four lower corners
abbrev pub reach_of : Pos → Reach
reach_of p = record { north_west = chunk_of (corner p false false false); south_east = chunk_of (corner p true false true) }

abbrev pub chunks_in_reach : Reach → List ChunkPos
chunks_in_reach r = r.north_west ∷ record { x = r.south_east.x; z = r.north_west.z } ∷ record { x = r.north_west.x; z = r.south_east.z } ∷ r.south_east ∷ []

abbrev pub corner_chunks : Pos → List ChunkPos
corner_chunks p = chunks_in_reach (reach_of p)

abbrev pub chunks_in : List Touch → List ChunkPos
chunks_in ts = map (λ t. t.chunk) ts

-- m is one more than the number of the group that touched the chunk last, and 0 where none has
pub record IsLast (gs : List Group) (ts : List Touch) (c : ChunkPos) (m : ℕ) : Type 0 where
  pub none : NoneTouches gs m (length gs) c
  pub touched : has_chunk (chunks_in ts) c ≡ true → m ≡ length gs + 1
  pub free : has_chunk (chunks_in ts) c ≡ false → m ≤ length gs
  pub exact : has_chunk (chunks_in ts) c ≡ false → IsExact gs c m

-- what the open group touches, behind the closed ones
pub record IsOpen (ps : List ChunkPos) (gs : List Group) (last : List ℕ) (ts : List Touch) : Type 0 where
  pub long : length last ≡ length ps
  pub distinct : AllPairs (λ c d. same_chunk c d ≡ false) (chunks_in ts)
  pub there : All (λ c. has_chunk ps c ≡ true) (chunks_in ts)
  pub own_index : All (HasOwnIndex ps) ts
  pub behind : All (λ t. (t.before ≤ length gs) × NoneTouches gs t.before (length gs) t.chunk) ts
  pub exact : All (λ t. IsExact gs t.chunk t.before) ts
  pub last_is : (c : ChunkPos) (m : ℕ) → slice_get last (slot ps c) ≡ Some m → IsLast gs ts c m

-- the open group touches the chunk, where it is there, and what it touched
pub record IsTouched (ps : List ChunkPos) (old new : List Touch) (c : ChunkPos) : Type 0 where
  pub touched : has_chunk ps c ≡ true → has_chunk (chunks_in new) c ≡ true
  pub kept : (d : ChunkPos) → has_chunk (chunks_in old) d ≡ true → has_chunk (chunks_in new) d ≡ true

-- the open group touches the chunk, where it is there
abbrev pub IsCovered : List ChunkPos → List Touch → ChunkPos → Type 0
IsCovered ps ts c = has_chunk ps c ≡ true → has_chunk (chunks_in ts) c ≡ true

-- it touches what it touched
abbrev pub AreKept : List Touch → List Touch → Type 0
AreKept old new = (c : ChunkPos) → has_chunk (chunks_in old) c ≡ true → has_chunk (chunks_in new) c ≡ true

-- the open group touches the chunks of each reach that is noted, where they are there
abbrev pub AreNoted : List ChunkPos → List Touch → List (Option Reach) → Type 0
AreNoted ps ts noted = (k : ℕ) (r : Reach) → slice_get noted k ≡ Some (Some r) → All (IsCovered ps ts) (chunks_in_reach r)

-- what a group of these entries touches is gathered behind the closed ones, and the group is to be closed
pub record IsGathered (w : Land ℕ) (gs : List Group) (last : List ℕ) (es : List Entry) (ts : List Touch) : Type 0 where
  pub is_open : IsOpen w.chunks gs last ts
  pub loaded : All (λ e. is_loaded w e.pos ≡ true) es
  pub stay : All (StaysIn w (has_chunk (chunks_in ts))) es

-- groups of the first n entries, of which none is open
pub record AreClosed (w : Land ℕ) (es : List Entry) (n : ℕ) (gs : List Group) (last : List ℕ) : Type 0 where
  pub entries_are : flat_map (entries_in es) gs ≡ take n es
  pub cut : AreCut w es gs last
  pub exact : AreExact w gs last
