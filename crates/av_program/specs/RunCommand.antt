-- What `run` reads, writes and prints.
use Rattle.std.specs.Prelude.{◌≡◌, ℕ, List, Option, map, Result, Ok, Err}
use Rattle.av_types.specs.declared.fault.Fault.{Fault}
use Rattle.av_sink.specs.Account.{Account, with_files, with_commit}
use Rattle.av_sink.specs.Saving.{named_file}
use Rattle.av_files.specs.Files.{file_in}
use Rattle.av_reports.specs.declared.failure.Failure.{Failure}
use Rattle.av_answers.specs.Checked.{IsCheckedAnswer}
use Rattle.av_answers.specs.declared.answers.Ran.{Ran}
use Rattle.av_answers.specs.declared.answers.Ran.TheVariants.{Done}
use Rattle.av_answers.specs.declared.answers.Outcome.{Outcome}
use Rattle.av_requests.specs.declared.requests.Inputs.{Inputs}
use Rattle.av_requests.specs.declared.requests.Request.{Request}
use Rattle.av_requests.specs.Requests.{IsReadBy}
use Rattle.av_outcomes.specs.Handing.{IsHandedOver, IsNotHandedOver, IsNotTaken}
use Rattle.av_outcomes.specs.Telling.{HasCounts}

-- the answer is that of a run of what was read, which may ask for a row for each state
abbrev pub IsRunOf : Request → Inputs → Result Ran Fault → Type 0
IsRunOf q i answer = IsReadBy q i × IsCheckedAnswer (map file_in i.files.items) i.table.items i.edits.items q.ticks q.workers q.strict answer

-- the same with the answer; nothing where the run is refused
pub data HasRunInto (q : Request) (i : Inputs) (old new : Account) : Result Ran Fault → Type 0 where
  ran : (r : Ran) → IsRunOf q i (Ok r) → IsHandedOver r old new → HasRunInto q i old new (Ok r)
  refused : (e : Fault) → IsRunOf q i (Err e) → new ≡ old → HasRunInto q i old new (Err e)
  stopped : (e : Fault) (r : Ran) → IsRunOf q i (Ok r) → IsNotHandedOver q.output.now r old new e → HasRunInto q i old new (Err e)

-- The same of a run whose input is read first, with why it failed: nothing where the input can't be read either.
pub data HasRunOver (q : Request) (old new : Account) : Result Ran Failure → Type 0 where
  read : (i : Inputs) (r : Ran) → IsRunOf q i (Ok r) → IsHandedOver r old new → HasRunOver q old new (Ok r)
  unread : (e : Failure) → new ≡ old → HasRunOver q old new (Err e)
  stopped_at : (i : Inputs) (r : Ran) (e : Failure) → IsRunOf q i (Ok r) → IsNotHandedOver q.output.now r old new e.fault → HasRunOver q old new (Err e)

-- What the command leaves in that account and on its output, and its status: the counts, or nothing and 1. A run that asks for a row for
-- each state is done only where each has one. Which bytes the table, the edits and the files have, no clause can say.
pub data HasRunRegions (q : Request) (old new : Account) (before after : Option (List ℕ)) (status : ℕ) : Type 0 where
  ran_all : (i : Inputs) (o : Outcome) (without_row : ℕ) → IsRunOf q i (Ok (Done o without_row)) → new ≡ with_commit (with_files old (map named_file o.files.items))
      → HasCounts o.chunks o.turns before after status → HasRunRegions q old new before after status
  not_run : new ≡ old → after ≡ before → status ≡ 1 → HasRunRegions q old new before after status
  not_written : (i : Inputs) (o : Outcome) (without_row : ℕ) (e : Fault) → IsRunOf q i (Ok (Done o without_row))
      → IsNotTaken q.output.now old new (map named_file o.files.items) e → after ≡ before → status ≡ 1 → HasRunRegions q old new before after status
