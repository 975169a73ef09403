-- The files of a folder beside those that would take their names.
use Rattle.std.specs.Prelude.{◌≡◌, ◌⊎◌, List, Contains}
use Rattle.av_types.specs.declared.fault.Fault.{Fault}
use Rattle.av_types.specs.declared.fault.Fault.TheVariants.{OutOfMemory}
use Rattle.av_types.specs.declared.position.RegionPos.{RegionPos}
use Rattle.av_sink.specs.Account.{IsDevice}
use Rattle.av_region_files.specs.Names.{region_name_of}
use Rattle.av_region_files.specs.declared.files.RegionFile.{RegionFile}

-- why a region's file was not read, whose name is said without the folder's
abbrev pub IsUnreadOld : RegionPos → Fault → Type 0
IsUnreadOld region e = (e ≡ OutOfMemory) ⊎ IsDevice (region_name_of region) e

-- why those of the same names were not read: one of them wasn't
pub data AreUnreadOlds (files : List RegionFile) (e : Fault) : Type 0 where
  memory : e ≡ OutOfMemory → AreUnreadOlds files e
  unread : (file : RegionFile) → Contains files file → IsUnreadOld file.pos e → AreUnreadOlds files e
