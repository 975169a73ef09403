-- What is handed to a sink for region files.
use Rattle.std.specs.Prelude.{◌≡◌, List, ◌∷◌, ◌++◌, string_bytes}
use Rattle.av_types.specs.declared.fault.Fault.{Fault}
use Rattle.av_types.specs.declared.fault.Fault.TheVariants.{OutOfMemory}
use Rattle.av_region_files.specs.declared.files.RegionFile.{RegionFile}
use Rattle.av_sink.specs.declared.saving.Named.{Named}
use Rattle.av_region_files.specs.Names.{region_name_of}
use Rattle.av_sink.specs.Account.{NamedFile, Account, IsDevice, with_files, with_failure}

-- a region's file under its name
abbrev pub named_file : RegionFile → NamedFile
named_file f = record { name = region_name_of f.pos; bytes = f.bytes.items }

-- Why not all files were handed over: memory ran out before the first one, or the sink did not take one, which the fault
-- names, after it took those before it; it saw none behind it.
pub data IsStopped (old new : Account) (files : List NamedFile) (e : Fault) : Type 0 where
  memory : e ≡ OutOfMemory → new ≡ old → IsStopped old new files e
  device : (before after : List NamedFile) (f : NamedFile) → files ≡ before ++ f ∷ after → IsDevice f.name e
      → new ≡ with_failure (with_files old before) → IsStopped old new files e

-- ---- working definition

abbrev pub entry_of : Named → NamedFile
entry_of n = record { name = string_bytes n.name; bytes = n.bytes.now }
