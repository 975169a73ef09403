-- The order of sections, and the territory of a block as a list.
use Rattle.std.specs.Prelude.{◌≡◌, ℤ, pos, ◌+ℤ◌, ◌-ℤ◌, Bool, true, false, not, ◌&&◌, ◌||◌, if◌then◌else◌, int_lt, IsTrue, List, [], ◌∷◌, ◌++◌}
use Rattle.std.specs.Ordering.{int_eq}
use Rattle.std.specs.List.{AllPairs}
use Rattle.av_types.specs.Division.{divided}
use Rattle.av_types.specs.declared.position.Pos.{Pos}
use Rattle.av_types.specs.declared.position.SectionPos.{SectionPos}
use Rattle.av_types.specs.Positions.{section_of}
use Rattle.av_cells.specs.Grid.{Grid, is_here}
use Rattle.av_play.specs.Corners.{corner}

-- earlier in the order (z, x, y)
abbrev pub before : SectionPos → SectionPos → Bool
before s t = int_lt s.z t.z || int_eq s.z t.z && (int_lt s.x t.x || int_eq s.x t.x && int_lt s.y t.y)

-- in this order, and none there twice
abbrev pub AreRising : List SectionPos → Type 0
AreRising ss = AllPairs (λ s t. IsTrue (before s t)) ss

-- ---- The territory as a list. No public clause cites what follows.

-- the end of a line is not in the section of its start, where the end is meant
abbrev pub is_new : Bool → ℤ → ℤ → Bool
is_new b low high = not (b && int_eq (divided low 16) (divided high 16))

abbrev pub is_first_there : Pos → Bool → Bool → Bool → Bool
is_first_there p east high south = is_new east (p.x -ℤ pos 5) (p.x +ℤ pos 5) && is_new high (p.y -ℤ pos 2) (p.y +ℤ pos 1) && is_new south (p.z -ℤ pos 5) (p.z +ℤ pos 5)

abbrev pub one_if : Bool → SectionPos → List SectionPos
one_if b s = if b then s ∷ [] else []

abbrev pub at_corner : Grid → Pos → Bool → Bool → Bool → List SectionPos
at_corner g p east south high = one_if (is_first_there p east high south && is_here (g (section_of (corner p east high south)))) (section_of (corner p east high south))

abbrev pub at_column : Grid → Pos → Bool → Bool → List SectionPos
at_column g p east south = at_corner g p east south false ++ at_corner g p east south true

abbrev pub at_side : Grid → Pos → Bool → List SectionPos
at_side g p south = at_column g p false south ++ at_column g p true south

abbrev pub territory_list : Grid → Pos → List SectionPos
territory_list g p = at_side g p false ++ at_side g p true

-- ---- The corners of a reach, of those in one section the first one. No public clause cites what follows.

abbrev pub corner_if : Pos → (east south high : Bool) → List Pos
corner_if p east south high = if is_new high (p.y -ℤ pos 2) (p.y +ℤ pos 1) then corner p east high south ∷ [] else []

abbrev pub column_if : Pos → (east south : Bool) → List Pos
column_if p east south = if is_new east (p.x -ℤ pos 5) (p.x +ℤ pos 5) then corner_if p east south false ++ corner_if p east south true else []

abbrev pub side_if : Pos → (south : Bool) → List Pos
side_if p south = if is_new south (p.z -ℤ pos 5) (p.z +ℤ pos 5) then column_if p false south ++ column_if p true south else []

abbrev pub corner_list : Pos → List Pos
corner_list p = side_if p false ++ side_if p true

-- the sections of these blocks that are there
abbrev pub sections_there : Grid → List Pos → List SectionPos
sections_there g [] = []
sections_there g (c ∷ cs) = one_if (is_here (g (section_of c))) (section_of c) ++ sections_there g cs

-- ---- Reaches that meet the same sections. No public clause cites what follows.

-- each corner of one reach lies in the section of the same corner of the other
pub record MeetSameSections (a b : Pos) : Type 0 where
  pub corners : (east high south : Bool) → section_of (corner a east high south) ≡ section_of (corner b east high south)
