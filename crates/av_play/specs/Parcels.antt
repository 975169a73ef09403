-- Parts turned on their own sections alone, taken out of a grid and put back.
use Rattle.std.specs.Prelude.{◌≡◌, ℕ, nat_eq, Bool, IsTrue, ◌↔◌, List}
use Rattle.av_types.specs.declared.position.Pos.{Pos}
use Rattle.av_types.specs.declared.position.SectionPos.{SectionPos}
use Rattle.av_types.specs.Positions.{section_of}
use Rattle.av_types.specs.declared.tick.Made.{Made}
use Rattle.av_cells.specs.declared.kind.Kind.{Kind}
use Rattle.av_cells.specs.World.{World}
use Rattle.av_cells.specs.Grid.{Grid, cells_of, only, without, over}
use Rattle.av_play.specs.declared.event.DueEntry.{DueEntry}
use Rattle.av_play.specs.Parts.{part_at}
use Rattle.av_play.specs.Play.{world_after, made_after}
use Rattle.av_play.specs.Laws.{IsOfPart, made_for}

-- t put over the rest of g is g after these turns, and they make the same on the picked sections alone
pub record IsPutBack (k : ℕ → Kind) (now : ℕ) (g : Grid) (part : List DueEntry) (b : SectionPos → Bool) (t : Grid) : Type 0 where
  pub cells : cells_of (over t (without b g)) ≡ world_after k now part (cells_of g)
  pub made : made_after k now part (cells_of (only b g)) ≡ made_after k now part (cells_of g)

-- the n-th part's sections were taken out of g, its entries were turned there, which gave the n-th parcel, and all parcels
-- were put where they were, which gave h; what was put aside for each part is what its turns made there
pub record AreMended (k : ℕ → Kind) (now : ℕ) (g : Grid) (parts : List (List DueEntry)) (part_of : ℕ → ℕ) (picks : ℕ → SectionPos → Bool) (parcels : ℕ → Grid) (h : Grid) (made : List Made) : Type 0 where
  pub exact : (n : ℕ) (s : SectionPos) → IsTrue (picks n s) ↔ IsOfPart (cells_of g) (part_at parts n) s
  pub turned : (n : ℕ) → cells_of (parcels n) ≡ world_after k now (part_at parts n) (cells_of (only (picks n) g))
  pub mended : (n : ℕ) (s : SectionPos) → IsTrue (picks n s) → h s ≡ parcels n s
  pub others : (s : SectionPos) → ((n : ℕ) → ¬ IsTrue (picks n s)) → h s ≡ g s
  pub put_aside : (n : ℕ) → made_for (λ i. nat_eq (part_of i) n) made ≡ made_after k now (part_at parts n) (cells_of (only (picks n) g))

-- The n-th part's sections were taken out of g and its entries turned there. In h each block of them is in the state that this left, and
-- what waits is what waited in g; what was put aside for each part is what its turns made there
pub record AreSettled (k : ℕ → Kind) (now : ℕ) (g : Grid) (parts : List (List DueEntry)) (part_of : ℕ → ℕ) (picks : ℕ → SectionPos → Bool) (h : World) (made : List Made) : Type 0 where
  pub exact : (n : ℕ) (s : SectionPos) → IsTrue (picks n s) ↔ IsOfPart (cells_of g) (part_at parts n) s
  pub same_loaded : (q : Pos) → h.loaded q ≡ (cells_of g).loaded q
  pub same_pending : (q : Pos) → h.pending q ≡ (cells_of g).pending q
  pub numbers : (n : ℕ) (q : Pos) → IsTrue (picks n (section_of q)) → h.number q ≡ (world_after k now (part_at parts n) (cells_of (only (picks n) g))).number q
  pub others : (q : Pos) → ((n : ℕ) → ¬ IsTrue (picks n (section_of q))) → h.number q ≡ (cells_of g).number q
  pub put_aside : (n : ℕ) → made_for (λ i. nat_eq (part_of i) n) made ≡ made_after k now (part_at parts n) (cells_of (only (picks n) g))
