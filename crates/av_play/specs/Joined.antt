-- Parcels over the rest of a grid.
use Rattle.std.specs.Prelude.{◌≡◌, ℕ, IsTrue, List, [], ◌∷◌, Some, None}
use Rattle.std.specs.List.{slice_get}
use Rattle.av_types.specs.declared.position.SectionPos.{SectionPos}
use Rattle.av_cells.specs.Grid.{Grid, is_here, cells_of, over}
use Rattle.av_cells.specs.declared.kind.Kind.{Kind}
use Rattle.av_play.specs.declared.event.DueEntry.{DueEntry}
use Rattle.av_play.specs.Play.{turn_of}

-- all parcels over the rest
abbrev pub joined : List Grid → Grid → Grid
joined [] rest = rest
joined (p ∷ ps) rest = over p (joined ps rest)

-- no section is there
abbrev pub empty : Grid
empty s = None

-- no section is in two parcels, and none of them is in the rest
pub record AreCarved (parcels : List Grid) (rest : Grid) : Type 0 where
  pub alone : (m n : ℕ) (p q : Grid) (s : SectionPos) → slice_get parcels m ≡ Some p → slice_get parcels n ≡ Some q → IsTrue (is_here (p s)) → IsTrue (is_here (q s)) → m ≡ n
  pub out : (n : ℕ) (p : Grid) (s : SectionPos) → slice_get parcels n ≡ Some p → IsTrue (is_here (p s)) → rest s ≡ None

-- the turn of x, seen in the whole g and made in its parcel p, leaves h
pub record IsTurned (k : ℕ → Kind) (now : ℕ) (x : DueEntry) (g p h : Grid) : Type 0 where
  pub world : cells_of h ≡ (turn_of k now x (cells_of g)).world
  pub made : (turn_of k now x (cells_of p)).made ≡ (turn_of k now x (cells_of g)).made

-- grids put over the rest one after the other
abbrev pub mend_all : List Grid → Grid → Grid
mend_all [] g = g
mend_all (p ∷ ps) g = mend_all ps (over p g)
