-- The names that an exchange gives to files of its own. All begin alike, and no region's file has one.
use Rattle.std.specs.Prelude.{◌≡◌, ℕ, List, [], ◌∷◌, ◌++◌, Bool, codes, nat_eq}
use Rattle.std.specs.List.{starts_with}
use Rattle.av_types.specs.declared.position.RegionPos.{RegionPos}
use Rattle.av_region_files.specs.Names.{region_name_of}
use Rattle.av_reports.specs.Names.{FitsRegion}

abbrev pub own_start : List ℕ
own_start = codes ".anvilwater-"

abbrev pub is_own : List ℕ → Bool
is_own name = starts_with nat_eq name own_start

-- the name under which the new file of a region is written
abbrev pub part_of : List ℕ → List ℕ
part_of name = own_start ++ name

-- the journal, and the name under which it is written
abbrev pub journal_name : List ℕ
journal_name = part_of (codes "journal")

abbrev pub new_journal_name : List ℕ
new_journal_name = part_of (codes "journal-new")

-- a file that is made to see whether a folder takes one
abbrev pub trial_name : List ℕ
trial_name = part_of (codes "trial")

-- the name of a region's file
pub record IsRegionName (name : List ℕ) : Type 0 where
  pub region : RegionPos
  pub fits : FitsRegion region
  pub named : name ≡ region_name_of region

-- the name of a file of an exchange, other than the journal
pub data IsBeside (name : List ℕ) : Type 0 where
  part : (region : List ℕ) → IsRegionName region → name ≡ part_of region → IsBeside name
  new_journal : name ≡ new_journal_name → IsBeside name
  trial : name ≡ trial_name → IsBeside name

-- ---- the journal's text

-- `anvilwater journal 2`
abbrev pub head_line : List ℕ
head_line = codes "anvilwater journal 2" ++ 10 ∷ []

abbrev pub lines_of : List (List ℕ) → List ℕ
lines_of [] = []
lines_of (text ∷ texts) = text ++ (10 ∷ lines_of texts)

-- The journal that lets files of these names take their names: the head's line, one for each name, an empty one, and one for each mark of
-- what had the names when it was written.
abbrev pub journal_of : (names marks : List (List ℕ)) → List ℕ
journal_of names marks = head_line ++ (lines_of names ++ (10 ∷ lines_of marks))
