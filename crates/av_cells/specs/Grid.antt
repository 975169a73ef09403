-- A world as its sections.
use Rattle.std.specs.Prelude.{◌≡◌, IsTrue, ℕ, ℤ, pos, ◌≤ℤ◌, ◌<ℤ◌, ◌+ℤ◌, ◌*ℤ◌, Bool, true, false, nat_eq, if◌then◌else◌, Option, Some, None, List, [], ◌∷◌}
use Rattle.av_types.specs.declared.position.Pos.{Pos}
use Rattle.av_types.specs.declared.position.SectionPos.{SectionPos}
use Rattle.av_types.specs.Positions.{section_of, place_of}
use Rattle.av_cells.specs.Positions.{same_section}
use Rattle.av_cells.specs.World.{World}

-- what a section contains, by the places in it: the number of each block's state, and whether an entry of it waits
pub record Filling : Type 0 where
  pub number : ℕ → ℕ
  pub pending : ℕ → Bool

-- the sections that are there
abbrev pub Grid : Type 0
Grid = SectionPos → Option Filling

abbrev pub is_here : Option Filling → Bool
is_here None = false
is_here (Some f) = true

abbrev pub number_in : Option Filling → ℕ → ℕ
number_in None i = 0
number_in (Some f) i = f.number i

abbrev pub pending_in : Option Filling → ℕ → Bool
pending_in None i = false
pending_in (Some f) i = f.pending i

-- the blocks of those sections
abbrev pub cells_of : Grid → World
cells_of g =
    record {
      loaded = λ p. is_here (g (section_of p));
      number = λ p. number_in (g (section_of p)) (place_of p);
      pending = λ p. pending_in (g (section_of p)) (place_of p);
    }

-- one section exchanged
abbrev pub with_filling : Grid → SectionPos → Option Filling → Grid
with_filling g s f t = if same_section t s then f else g t

-- one block of a section set
abbrev pub renumbered : Filling → ℕ → ℕ → Filling
renumbered f i n = record { number = λ j. if nat_eq j i then n else f.number j; pending = f.pending }

abbrev pub renumbered_in : Option Filling → ℕ → ℕ → Option Filling
renumbered_in None i n = None
renumbered_in (Some f) i n = Some (renumbered f i n)

-- one block of a section pending
abbrev pub waited : Filling → ℕ → Filling
waited f i = record { number = f.number; pending = λ j. if nat_eq j i then true else f.pending j }

abbrev pub waited_in : Option Filling → ℕ → Option Filling
waited_in None i = None
waited_in (Some f) i = Some (waited f i)

-- one block of a section pending no longer
abbrev pub cleared : Filling → ℕ → Filling
cleared f i = record { number = f.number; pending = λ j. if nat_eq j i then false else f.pending j }

abbrev pub cleared_in : Option Filling → ℕ → Option Filling
cleared_in None i = None
cleared_in (Some f) i = Some (cleared f i)

-- the sections that a test picks, the others, and some sections put over others
abbrev pub only : (SectionPos → Bool) → Grid → Grid
only b g s = if b s then g s else None

abbrev pub without : (SectionPos → Bool) → Grid → Grid
without b g s = if b s then None else g s

abbrev pub over : Grid → Grid → Grid
over part rest s = if is_here (part s) then part s else rest s

-- the section is one of these
abbrev pub among : List SectionPos → SectionPos → Bool
among [] s = false
among (t ∷ ts) s = if same_section s t then true else among ts s

-- a coordinate lies in the sixteen of a section's
pub record IsInSixteen (section coordinate : ℤ) : Type 0 where
  pub from : (pos 16 *ℤ section) ≤ℤ coordinate
  pub to : coordinate <ℤ (pos 16 *ℤ section +ℤ pos 16)

-- a block lies in a section
pub record LiesIn (s : SectionPos) (p : Pos) : Type 0 where
  pub along_x : IsInSixteen s.x p.x
  pub along_y : IsInSixteen s.y p.y
  pub along_z : IsInSixteen s.z p.z

-- the block lies in a section that is there, and in no other section
pub record HasOneSection (g : Grid) (p : Pos) : Type 0 where
  pub section : SectionPos
  pub here : IsTrue (is_here (g section))
  pub lies : LiesIn section p
  pub alone : (t : SectionPos) → LiesIn t p → t ≡ section
