-- Region files that a run leaves out.
use Rattle.std.specs.Prelude.{◌≡◌, ◌<◌, ℕ, List, ◌++◌, ◌∷◌, [], Bool, not, codes, filter, length, map, slice_index_or}
use Rattle.std.specs.Borrow.{Bor}
use Rattle.std.specs.List.{list_any}
use Rattle.std.specs.Str.{bytes_eq}
use Rattle.av_types.specs.declared.position.RegionPos.{RegionPos}
use Rattle.av_region_files.specs.Names.{region_name_of}
use Rattle.av_reports.specs.Names.{FitsRegion}
use Rattle.av_region_files.specs.declared.files.RegionFile.{RegionFile}
use Rattle.av_folders.specs.Folders.{AreInNameOrder}
use Rattle.av_requests.specs.declared.skipping.NoSkip.{NoSkip}
use Rattle.av_requests.specs.declared.skipping.NoSkip.TheVariants.{Memory, Unnamed, Missing}

-- a name that may be skipped: that of a region's file
pub record IsSkipped (name : List ℕ) : Type 0 where
  pub region : RegionPos
  pub named : name ≡ region_name_of region

-- why the file of a name can't be skipped: it is no region's, or it is not there
abbrev pub IsNoSkip : Bor (List ℕ) → NoSkip → Type 0
IsNoSkip name Memory = Unit {0}
IsNoSkip name (Unnamed n) = (n ≡ name) × ((region : RegionPos) → FitsRegion region → name.now ≡ region_name_of region → ⊥)
IsNoSkip name (Missing n) = (n ≡ name) × IsSkipped name.now

-- the first of these names that can't be skipped
pub record IsFirstNoSkip (names : List (Bor (List ℕ))) (e : NoSkip) : Type 0 where
  pub index : ℕ
  pub within : index < length names
  pub before : (k : ℕ) (d : Bor (List ℕ)) → k < index → IsSkipped (slice_index_or names k d).now
  pub refused : (d : Bor (List ℕ)) → IsNoSkip (slice_index_or names index d) e

abbrev pub names_of : List RegionFile → List (List ℕ)
names_of files = map (λ f. region_name_of f.pos) files

abbrev pub is_among : List (Bor (List ℕ)) → List ℕ → Bool
is_among names name = list_any (λ other. bytes_eq other.now name) names

-- names but those that are skipped, in their order
abbrev pub others : List (Bor (List ℕ)) → List (List ℕ) → List (List ℕ)
others skip names = filter (λ name. not (is_among skip name)) names

-- what a run is of: the region files of a folder but those that are skipped, in the byte order of their names
pub record AreOthers (skip : List (Bor (List ℕ))) (files : List RegionFile) : Type 0 where
  pub listed : List RegionPos
  pub order : AreInNameOrder listed
  pub kept : names_of files ≡ others skip (map region_name_of listed)

-- `r.X.Z.mca is skipped: it counts as not there and stays as it is`
abbrev pub skipped_text : List ℕ → List ℕ
skipped_text name = name ++ (codes " is skipped: it counts as not there and stays as it is" ++ 10 ∷ [])
