-- What `check` prints. Which files a folder has, and which bytes these and the table have, no clause can say.
use Rattle.std.specs.Prelude.{◌≡◌, ◌≢◌, ◌⊎◌, ℕ, List, [], Option}
use Rattle.av_types.specs.declared.position.Height.{Height}
use Rattle.av_types.specs.declared.fault.Fault.{Fault}
use Rattle.av_survey.specs.Survey.{IsSurvey}
use Rattle.av_survey.specs.declared.finding.Finding.{Finding}
use Rattle.av_commands.specs.CheckCommand.{HasFindings}
use Rattle.av_commands.specs.Tables.{IsHeightBy, IsUnreadTable}
use Rattle.av_folders.specs.declared.reading.FolderFiles.{FolderFiles}
use Rattle.av_folders.specs.Folders.{IsFolderRead, IsFolderFault}

-- why the table and the folder of `check` were not read
abbrev pub IsUnreadCheck : List ℕ → Option (List ℕ) → Fault → Type 0
IsUnreadCheck folder table e = IsUnreadTable table e ⊎ IsFolderFault folder e

-- What a call leaves on its output for what was read of a folder, and its status: the findings of a survey of the files that were read, with
-- their status where each file was read, and else 1; or nothing and 1.
pub data HasSurveyed (h : Height) (read : FolderFiles) (before after : Option (List ℕ)) (status : ℕ) : Type 0 where
  whole : (found : List Finding) → read.unread.items ≡ [] → IsSurvey h read.files.items found → HasFindings found before after status
      → HasSurveyed h read before after status
  in_part : (found : List Finding) (n : ℕ) → read.unread.items ≢ [] → IsSurvey h read.files.items found → HasFindings found before after n → status ≡ 1
      → HasSurveyed h read before after status
  refused : after ≡ before → status ≡ 1 → HasSurveyed h read before after status

-- The same of the command: each region file of a folder was read or is named, and the survey is under the table's height; or nothing and 1.
pub data HasChecked (table : Option (List ℕ)) (before after : Option (List ℕ)) (status : ℕ) : Type 0 where
  read_folder : (h : Height) (read : FolderFiles) → IsHeightBy table h → IsFolderRead read → HasSurveyed h read before after status
      → HasChecked table before after status
  unread : after ≡ before → status ≡ 1 → HasChecked table before after status
