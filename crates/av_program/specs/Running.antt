-- What a run of the program leaves behind: in the account of the sink that its files are handed to, before and after; on its output,
-- before and after; and its status. Which words it was called with and which bytes a file has, no clause can say.
use Rattle.std.specs.Prelude.{◌≡◌, ◌⊎◌, ℕ, false, true, List, Option, option_map}
use Rattle.std.specs.List.{All}
use Rattle.clap.specs.Words.{Text, kind_of}
use Rattle.clap.specs.declared.error.Error.{Error}
use Rattle.av_sink.specs.Account.{Account, in_folder, with_repair}
use Rattle.av_sink.specs.declared.sink.Repair.{Repair}
use Rattle.av_words.specs.declared.command_line.commands.RunWords.{RunWords}
use Rattle.av_words.specs.declared.command_line.commands.Words.{Words}
use Rattle.av_words.specs.declared.command_line.commands.Words.TheVariants.{Block, Check, Map, Run, States}
use Rattle.av_queries.specs.BlockCommand.{HasRunBlock}
use Rattle.av_words.specs.CommandLine.{IsReadFrom, IsWordsRefusal, asks_twice}
use Rattle.av_queries.specs.CheckCommand.{HasChecked}
use Rattle.av_queries.specs.MapCommand.{HasMapped}
use Rattle.av_requests.specs.declared.requests.Request.{Request}
use Rattle.av_program.specs.DryRun.{HasRunDry}
use Rattle.av_program.specs.RunCommand.{HasRunRegions}
use Rattle.av_requests.specs.Refusals.{IsRefusalStatus}
use Rattle.av_requests.specs.Requests.{IsRequestOf}
use Rattle.av_requests.specs.Skipping.{IsSkipped}
use Rattle.av_queries.specs.StatesCommand.{HasListed}
use Rattle.av_outcomes.specs.Closing.{IsLeft, goes_on}

-- The same of `run` in its folder, which was opened: what its files leave there, once it was looked for a run that was cut off; all is well only where
-- the folder is closed then. One that was finished first is all that is done. Or nothing and 1, where that can't be done.
pub data HasRunOpened (q : Request) (old new : Account) (before after : Option (List ℕ)) (status : ℕ) : Type 0 where
  ran_on : (r : Repair) (st : ℕ) (ran : Account) → goes_on q.again r ≡ true → HasRunRegions q (with_repair r old) ran before after st
      → IsLeft ran new st status → HasRunOpened q old new before after status
  finished : (r : Repair) → goes_on q.again r ≡ false → new ≡ with_repair r old → after ≡ before → status ≡ 0 → HasRunOpened q old new before after status
  unrepaired : new ≡ old → after ≡ before → status ≡ 1 → HasRunOpened q old new before after status

-- the same of its folder, or nothing and 1 where that is refused or memory for its name runs out
pub data HasRunInFolder (q : Request) (old new : Account) (before after : Option (List ℕ)) (status : ℕ) : Type 0 where
  opened : HasRunOpened q (in_folder q.output.now old) new before after status → HasRunInFolder q old new before after status
  unopened : new ≡ old → after ≡ before → status ≡ 1 → HasRunInFolder q old new before after status

-- the same by its words. It may only be asked what it would change, which hands no file over; and only region files are skipped.
pub data HasRunBy (run : RunWords) (old new : Account) (before after : Option (List ℕ)) (status : ℕ) : Type 0 where
  run_by : (q : Request) → IsRequestOf run q → All (λ n. IsSkipped n.now) q.skip.now → run.dry_run ≡ false → HasRunInFolder q old new before after status
      → HasRunBy run old new before after status
  run_dry_by : (q : Request) → IsRequestOf run q → All (λ n. IsSkipped n.now) q.skip.now → run.dry_run ≡ true → new ≡ old → HasRunDry q before after status
      → HasRunBy run old new before after status
  not_skipped : new ≡ old → after ≡ before → status ≡ 1 → HasRunBy run old new before after status

-- the same of a command: `run` hands its files to the folder that its words name, `map` its picture to that of its path, and no other
-- command hands any to a sink
abbrev pub HasRunCommand : Words → Account → Account → Option (List ℕ) → Option (List ℕ) → ℕ → Type 0
HasRunCommand (Block file at table explain) old new before after status = (new ≡ old) × HasRunBlock file.now at (option_map (λ t. t.now) table) before after status
HasRunCommand (Check input table progress explain) old new before after status = (new ≡ old) × HasChecked (option_map (λ t. t.now) table) before after status
HasRunCommand (Run run) old new before after status = HasRunBy run old new before after status
HasRunCommand (Map input picture table colours light explain) old new before after status =
    (after ≡ before) × HasMapped picture.now (option_map (λ t. t.now) table) (option_map (λ t. t.now) colours) light old new status
HasRunCommand (States input table explain) old new before after status = (new ≡ old) × HasListed (option_map (λ t. t.now) table) before after status

-- the same of words: the run of the command that they name, unless it asks twice for standard input, or a refusal, which may print help
pub data HasRunWords (words : List Text) (old new : Account) (before after : Option (List ℕ)) (status : ℕ) : Type 0 where
  ran : (command : Words) → IsReadFrom words command → asks_twice command ≡ false → HasRunCommand command old new before after status → HasRunWords words old new before after status
  twice : (command : Words) → IsReadFrom words command → asks_twice command ≡ true → new ≡ old → after ≡ before → status ≡ 2 → HasRunWords words old new before after status
  refused : (e : Error) → IsWordsRefusal words e → new ≡ old → IsRefusalStatus (kind_of e) status → HasRunWords words old new before after status

-- the same of the program: the run of the words that it was called with, or nothing and a status where it can't have them
pub data HasRunProgram (old new : Account) (before after : Option (List ℕ)) (status : ℕ) : Type 0 where
  called : (words : List Text) → HasRunWords words old new before after status → HasRunProgram old new before after status
  uncalled : new ≡ old → after ≡ before → (status ≡ 1) ⊎ (status ≡ 2) → HasRunProgram old new before after status
