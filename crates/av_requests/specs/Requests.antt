-- What `run` is asked for and what it reads. Which bytes the table, the edits and the files have, no clause can say.
use Rattle.std.specs.Prelude.{◌≡◌, ◌⊎◌, ◌≤◌, ℕ, [], Option, Some, None, option_map}
use Rattle.av_types.specs.declared.fault.Fault.{Fault}
use Rattle.av_words.specs.declared.command_line.commands.RunWords.{RunWords}
use Rattle.av_folders.specs.Folders.{IsUnreadFolder}
use Rattle.av_commands.specs.Texts.{IsUnreadText}
use Rattle.av_commands.specs.Shipped.{shipped_table}
use Rattle.av_requests.specs.declared.requests.Inputs.{Inputs}
use Rattle.av_requests.specs.declared.requests.Request.{Request}
use Rattle.av_requests.specs.Skipping.{AreOthers}

-- how many workers a run has: as many as it is given, or some that can work
abbrev pub IsWorkersBy : Option ℕ → ℕ → Type 0
IsWorkersBy None n = (1 ≤ n) × (n ≤ 8)
IsWorkersBy (Some given) n = n ≡ given

-- what a run is asked for, by its words
pub record IsRequestOf (run : RunWords) (q : Request) : Type 0 where
  pub input : q.input.now ≡ run.input.now
  pub output : q.output.now ≡ run.output.now
  pub table : option_map (λ t. t.now) q.table ≡ option_map (λ t. t.now) run.table
  pub edits : option_map (λ t. t.now) q.edits ≡ option_map (λ t. t.now) run.edits
  pub ticks : q.ticks ≡ run.ticks
  pub workers : IsWorkersBy run.workers q.workers
  pub skip : q.skip.now ≡ run.skip.items
  pub strict : q.strict ≡ run.strict
  pub in_use : q.in_use ≡ run.in_use
  pub again : q.again ≡ run.again

-- why the table, the edits and the folder of `run` were not read
abbrev pub IsUnreadRun : Request → Fault → Type 0
IsUnreadRun q e = IsUnreadText (option_map (λ t. t.now) q.table) e ⊎ (IsUnreadText (option_map (λ t. t.now) q.edits) e ⊎ IsUnreadFolder q.input.now e)

-- what was read: without a table it is the shipped one, without edits there are none, and the files are those of the folder that are not skipped
pub record IsReadBy (q : Request) (i : Inputs) : Type 0 where
  pub table : option_map (λ t. t.now) q.table ≡ None → i.table.items ≡ shipped_table
  pub edits : option_map (λ t. t.now) q.edits ≡ None → i.edits.items ≡ []
  pub files : AreOthers q.skip.now i.files.items
