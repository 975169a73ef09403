-- Folders of region files: which are read, and what is known of one that files are written to.
use Rattle.std.specs.Prelude.{◌≡◌, ◌⊎◌, ℕ, List, [], ◌∷◌, Option, None, Bool, false, codes, map, string_bytes}
use Rattle.std.specs.List.Sorted.{IsStrictlySortedBy}
use Rattle.std.specs.Ordering.{nat_cmp}
use Rattle.std.specs.Path.{path_join}
use Rattle.std.specs.Cmp.Lexicographic.{slice_cmp}
use Rattle.av_types.specs.declared.position.RegionPos.{RegionPos}
use Rattle.av_types.specs.declared.fault.Fault.{Fault}
use Rattle.av_types.specs.declared.fault.Fault.TheVariants.{OutOfMemory}
use Rattle.av_sink.specs.Account.{Account, IsDevice}
use Rattle.av_sink.specs.declared.sink.Repair.{Repair}
use Rattle.av_region_files.specs.Names.{region_name_of}
use Rattle.av_folders.specs.declared.reading.FolderFiles.{FolderFiles}
use Rattle.av_folders.specs.declared.reading.Listed.{Listed}

-- why a folder itself is refused: it can't be listed, or written to
abbrev pub IsFolderFault : List ℕ → Fault → Type 0
IsFolderFault folder e = (e ≡ OutOfMemory) ⊎ IsDevice folder e

-- why the game's world is refused: its `session.lock`, which is in some folder, is locked
abbrev pub IsSessionFault : Fault → Type 0
IsSessionFault e = (e ≡ OutOfMemory) ⊎ ((folder : List ℕ) × IsDevice (path_join folder (codes "session.lock")) e)

-- why a run's output folder is refused: it is itself, or it is of a world that the game has open, where that matters
pub data IsOutputFault (folder : List ℕ) (in_use : Bool) (e : Fault) : Type 0 where
  refused : IsFolderFault folder e → IsOutputFault folder in_use e
  open_in_game : in_use ≡ false → IsSessionFault e → IsOutputFault folder in_use e

-- why a folder was not read: it can't be listed, or one of its region files can't be read, whose name is said without the
-- folder's
pub data IsUnreadFolder (folder : List ℕ) (e : Fault) : Type 0 where
  memory : e ≡ OutOfMemory → IsUnreadFolder folder e
  listing : IsDevice folder e → IsUnreadFolder folder e
  file : (region : RegionPos) → IsDevice (region_name_of region) e → IsUnreadFolder folder e

-- a folder tells its name, what was done about a run that was cut off, the counts, whether its files have their names, and whether all is
-- told of them
abbrev pub folder_account : Option (List ℕ) → Option Repair → ℕ → ℕ → Bool → Bool → Account
folder_account folder repair failures handed committed closed =
    record { folder = folder; repair = repair; failures = failures; handed = handed; committed = committed; closed = closed; kept = None }

-- region files as they are read: in the byte order of their names, each name once
abbrev pub AreInNameOrder : List RegionPos → Type 0
AreInNameOrder regions = IsStrictlySortedBy (λ a b. slice_cmp nat_cmp (region_name_of a) (region_name_of b)) regions

-- names, each of which is the next of one of two lists
pub data AreSharedOut : List (List ℕ) → List (List ℕ) → List (List ℕ) → Type 0 where
  none : AreSharedOut [] [] []
  first : (name : List ℕ) (all left right : List (List ℕ)) → AreSharedOut all left right → AreSharedOut (name ∷ all) (name ∷ left) right
  second : (name : List ℕ) (all left right : List (List ℕ)) → AreSharedOut all left right → AreSharedOut (name ∷ all) left (name ∷ right)

-- what was read are the files of some of these regions, and the names of the others' are said, both in the order of the regions
abbrev pub AreRead : List RegionPos → FolderFiles → Type 0
AreRead regions read = AreSharedOut (map region_name_of regions) (map (λ f. region_name_of f.pos) read.files.items) (map (λ u. string_bytes u.name) read.unread.items)

-- each region file of a folder was read or is named, in the byte order of their names, each name once
pub record IsFolderRead (read : FolderFiles) : Type 0 where
  pub listed : List RegionPos
  pub order : AreInNameOrder listed
  pub all : AreRead listed read

-- ---- working definition

-- the name is the region's
abbrev pub IsListed : Listed → Type 0
IsListed l = string_bytes l.name ≡ region_name_of l.region
