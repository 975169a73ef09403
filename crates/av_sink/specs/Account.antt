-- What a sink has taken.
use Rattle.std.specs.Prelude.{◌≡◌, ℕ, ◌+◌, List, ◌++◌, length, Bool, true, false, Option, Some, None, option_map, string_bytes}
use Rattle.av_types.specs.declared.fault.Fault.{Fault}
use Rattle.av_types.specs.declared.fault.Fault.TheVariants.{Device}
use Rattle.av_sink.specs.declared.sink.Repair.{Repair}

pub record NamedFile : Type 0 where
  pub name : List ℕ
  pub bytes : List ℕ

abbrev pub file_named : List ℕ → List ℕ → NamedFile
file_named name bytes = record { name = name; bytes = bytes }

pub record Account : Type 0 where
  -- the name of the folder that its files go to, once it was opened
  pub folder : Option (List ℕ)
  -- what was done about a run of that folder that was cut off, once that was looked for
  pub repair : Option Repair
  pub failures : ℕ
  pub handed : ℕ
  -- whether the files that it was handed have their names
  pub committed : Bool
  -- whether it was noted that all is told of them
  pub closed : Bool
  -- the files that it keeps, where it tells
  pub kept : Option (List NamedFile)

-- after it took these files, each once, in this order
abbrev pub with_files : Account → List NamedFile → Account
with_files a files = record {
  folder = a.folder;
  repair = a.repair;
  failures = a.failures;
  handed = a.handed + length files;
  committed = a.committed;
  closed = a.closed;
  kept = option_map (λ l. l ++ files) a.kept;
}

-- after it did not take one
abbrev pub with_failure : Account → Account
with_failure a = record { folder = a.folder; repair = a.repair; failures = a.failures + 1; handed = a.handed; committed = a.committed; closed = a.closed; kept = a.kept }

-- after the folder of that name was opened
abbrev pub in_folder : List ℕ → Account → Account
in_folder name a = record { folder = Some name; repair = a.repair; failures = a.failures; handed = a.handed; committed = a.committed; closed = a.closed; kept = a.kept }

-- after it was looked for a run that was cut off
abbrev pub with_repair : Repair → Account → Account
with_repair r a = record { folder = a.folder; repair = Some r; failures = a.failures; handed = a.handed; committed = a.committed; closed = a.closed; kept = a.kept }

-- after the files took their names
abbrev pub with_commit : Account → Account
with_commit a = record { folder = a.folder; repair = a.repair; failures = a.failures; handed = a.handed; committed = true; closed = a.closed; kept = a.kept }

-- after it was noted that all is told of the files that took their names
abbrev pub with_end : Account → Account
with_end a = record { folder = a.folder; repair = a.repair; failures = a.failures; handed = a.handed; committed = a.committed; closed = true; kept = a.kept }

-- it has opened no folder, taken no file and not failed
pub record IsFresh (a : Account) : Type 0 where
  pub folder : a.folder ≡ None
  pub failures : a.failures ≡ 0
  pub handed : a.handed ≡ 0
  pub committed : a.committed ≡ false
  pub closed : a.closed ≡ false

-- the fault of a file or folder of that name
abbrev pub IsDevice : List ℕ → Fault → Type 0
IsDevice name (Device text) = string_bytes text ≡ name
IsDevice name e = ⊥
