-- Names of files, and which numbers those of region files have.
use Rattle.std.specs.Prelude.{◌≡◌, ◌≢◌, ◌⊎◌, ◌<◌, ℕ, List, ◌++◌, codes, length, slice_index, FitsSigned}
use Rattle.std.specs.Int.{w32}
use Rattle.av_types.specs.declared.position.RegionPos.{RegionPos}

-- no byte of the text is a dot
abbrev pub HasNoDot : List ℕ → Type 0
HasNoDot text = (i : ℕ) → i < length text → slice_index text i ≢ 46

-- both coordinates are numbers of 32 bits
abbrev pub FitsRegion : RegionPos → Type 0
FitsRegion region = FitsSigned w32 region.x × FitsSigned w32 region.z

-- the name of a file in its folder: what follows the last slash of its path
abbrev pub IsFileNameOf : List ℕ → List ℕ → Type 0
IsFileNameOf path name = ((i : ℕ) → i < length name → slice_index name i ≢ 47)
    × ((path ≡ name) ⊎ ((folder : List ℕ) × (path ≡ folder ++ (codes "/" ++ name))))

-- a path: the folder that it begins with, up to its last slash, or nothing where it has none, and the file's name behind that
pub record IsFileIn (path folder name : List ℕ) : Type 0 where
  pub parts : path ≡ folder ++ name
  pub no_slash : (i : ℕ) → i < length name → slice_index name i ≢ 47
