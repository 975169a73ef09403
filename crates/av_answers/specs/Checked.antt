-- What a run answers that may ask for a row for each state.
use Rattle.std.specs.Prelude.{◌≡◌, ℕ, ◌<◌, List, Bool, true, not, count_by, Result, Ok, Err}
use Rattle.av_types.specs.declared.position.Height.{Height}
use Rattle.av_types.specs.declared.fault.Fault.{Fault}
use Rattle.av_state.specs.BlockState.{BlockState}
use Rattle.av_rules.specs.Rows.{BlockTable, has_row}
use Rattle.av_files.specs.Files.{File}
use Rattle.av_land.specs.Land.{Land}
use Rattle.av_files.specs.Denotes.{Rest}
use Rattle.av_files.specs.FirstFault.{IsTable, AreFilesRead, IsAccepted}
use Rattle.av_answers.specs.Answer.{IsRunAnswer}
use Rattle.av_answers.specs.declared.answers.Ran.{Ran}
use Rattle.av_answers.specs.declared.answers.Ran.TheVariants.{Done, Uncovered}
use Rattle.av_answers.specs.declared.answers.Outcome.{Outcome}

-- how many states a table has no row for
abbrev pub without_row : BlockTable → List BlockState → ℕ
without_row t states = count_by (λ s. not (has_row t s)) states

-- So many states have no row: of the ten built-in ones and those of the palettes of all loaded chunks, each once.
pub record HasUncovered (files : List File) (table : List ℕ) (count : ℕ) : Type 0 where
  pub rules : BlockTable
  pub height : Height
  pub states : List BlockState
  pub spelled : IsTable table rules height
  pub read : AreFilesRead height files states
  pub counted : count ≡ without_row rules states

-- what `run` answers, and how many states have no row: none where each is to have one
pub record IsDone (files : List File) (table edits : List ℕ) (n k : ℕ) (strict : Bool) (o : Outcome) (count : ℕ) : Type 0 where
  pub answer : IsRunAnswer files table edits n k (Ok o)
  pub uncovered : HasUncovered files table count
  pub strictly : strict ≡ true → count ≡ 0

-- each state is to have a row, some have none, and the input is accepted, so that it has no fault
pub record IsUncovered (files : List File) (table edits : List ℕ) (n k : ℕ) (strict : Bool) (count : ℕ) : Type 0 where
  pub asked : strict ≡ true
  pub some : 0 < count
  pub uncovered : HasUncovered files table count
  pub rules : BlockTable
  pub height : Height
  pub world : Land BlockState
  pub rest : Rest
  pub accepted : IsAccepted files table edits n k rules height world rest

-- A run as `run` answers it; but where each state is to have a row and some have none, nothing is run.
abbrev pub IsCheckedAnswer : List File → List ℕ → List ℕ → ℕ → ℕ → Bool → Result Ran Fault → Type 0
IsCheckedAnswer files table edits n k strict (Ok (Done o count)) = IsDone files table edits n k strict o count
IsCheckedAnswer files table edits n k strict (Ok (Uncovered count)) = IsUncovered files table edits n k strict count
IsCheckedAnswer files table edits n k strict (Err e) = IsRunAnswer files table edits n k (Err e)
