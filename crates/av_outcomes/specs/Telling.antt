-- What is told of a run.
use Rattle.std.specs.Prelude.{◌≡◌, ℕ, List, [], ◌++◌, Option, codes, Result, Ok, Err}
use Rattle.std.specs.Fmt.{decimal}
use Rattle.std.specs.Io.KnownBytes.{Appends}
use Rattle.av_region_files.specs.declared.files.RegionFile.{RegionFile}
use Rattle.av_changes.specs.Changes.{change_lines}
use Rattle.av_reports.specs.Output.{line}
use Rattle.av_reports.specs.declared.failure.Failure.{Failure}
use Rattle.av_answers.specs.declared.answers.Ran.{Ran}
use Rattle.av_answers.specs.declared.answers.Ran.TheVariants.{Done, Uncovered}
use Rattle.av_outcomes.specs.declared.telling.Foreseen.{Foreseen}

-- `chunks C turns T`
abbrev pub counts_text : ℕ → ℕ → List ℕ
counts_text chunks turns = codes "chunks " ++ (decimal chunks ++ (codes " turns " ++ decimal turns))

-- how many states have no row, where the run goes on, and where it does not
abbrev pub uncovered_text : ℕ → List ℕ
uncovered_text n = decimal n ++ codes " states have no row in the table and count as full and dark: `anvilwater states` lists them"

abbrev pub strict_text : ℕ → List ℕ
strict_text n = decimal n ++ codes " states have no row in the table, and --strict wants one: `anvilwater states` lists them"

-- what a call leaves on its output for a run's counts, and its status: the line, or 1 where writing failed
pub data HasCounts (chunks turns : ℕ) (before after : Option (List ℕ)) (status : ℕ) : Type 0 where
  written : Appends before after (line (counts_text chunks turns)) → status ≡ 0 → HasCounts chunks turns before after status
  unwritten : status ≡ 1 → HasCounts chunks turns before after status

-- what is told of a run, and the status: the counts, or nothing and 1
abbrev pub HasReported : Result Ran Failure → Option (List ℕ) → Option (List ℕ) → ℕ → Type 0
HasReported (Ok (Done o without_row)) before after status = HasCounts o.chunks o.turns before after status
HasReported (Ok (Uncovered without_row)) before after status = (after ≡ before) × (status ≡ 1)
HasReported (Err e) before after status = (after ≡ before) × (status ≡ 1)

-- the files that a run would hand over
abbrev pub outcome_files : Ran → List RegionFile
outcome_files (Done o without_row) = o.files.items
outcome_files (Uncovered without_row) = []

-- what is told of it, and the status: the changes, and then what is told of a run; or 1 where writing failed
pub data HasTold (f : Foreseen) (before after : Option (List ℕ)) (status : ℕ) : Type 0 where
  told : (next : Option (List ℕ)) → Appends before next (change_lines (codes "would change") f.changes.items) → HasReported (Ok f.ran) next after status → HasTold f before after status
  untold : status ≡ 1 → HasTold f before after status
