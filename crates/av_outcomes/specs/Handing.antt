-- What a run leaves in the account of a folder.
use Rattle.std.specs.Prelude.{◌≡◌, ℕ, List, map}
use Rattle.av_types.specs.declared.fault.Fault.{Fault}
use Rattle.av_sink.specs.Account.{Account, NamedFile, with_files, with_commit}
use Rattle.av_sink.specs.Saving.{IsStopped, named_file}
use Rattle.av_folders.specs.Folders.{IsFolderFault}
use Rattle.av_answers.specs.declared.answers.Ran.{Ran}
use Rattle.av_answers.specs.declared.answers.Ran.TheVariants.{Done, Uncovered}

-- what a run leaves in the account of a folder that its files are handed to: all of them, in their order, which have their names there, or
-- nothing where it asked for rows
abbrev pub IsHandedOver : Ran → Account → Account → Type 0
IsHandedOver (Done o without_row) old new = new ≡ with_commit (with_files old (map named_file o.files.items))
IsHandedOver (Uncovered without_row) old new = new ≡ old

-- the folder of that name did not take a file, or all but they did not take their names
pub data IsNotTaken (folder : List ℕ) (old new : Account) (files : List NamedFile) (e : Fault) : Type 0 where
  stopped_at : IsStopped old new files e → IsNotTaken folder old new files e
  uncommitted : new ≡ with_files old files → IsFolderFault folder e → IsNotTaken folder old new files e

abbrev pub IsNotHandedOver : List ℕ → Ran → Account → Account → Fault → Type 0
IsNotHandedOver folder (Done o without_row) old new e = IsNotTaken folder old new (map named_file o.files.items) e
IsNotHandedOver folder (Uncovered without_row) old new e = ⊥
