-- What a run answers.
use Rattle.std.specs.Prelude.{◌≡◌, ◌≢◌, ◌⊎◌, ℕ, List, map, Result, Err, IfOk, IfErr}
use Rattle.av_types.specs.declared.fault.Fault.{Fault}
use Rattle.av_types.specs.declared.fault.Fault.TheVariants.{OutOfMemory}
use Rattle.av_files.specs.Headline.{Headline, IsRunRefused}
use Rattle.av_files.specs.Files.{File, file_in}
use Rattle.av_answers.specs.declared.answers.Outcome.{Outcome}

-- Files that decode to the world that the rule reaches from the input, with the light of its brightest paths and the rest that was read;
-- or the first fault of the input, or the first chunk that is too large when all is done, or want of memory. Where there is such a cause
-- nothing else but want of memory is answered.
pub record IsRunAnswer (files : List File) (table edits : List ℕ) (n k : ℕ) (answer : Result Outcome Fault) : Type 0 where
  pub ok : IfOk answer (λ o. Headline files table edits n k (map file_in o.files.items) o.turns o.chunks)
  pub refused : IfErr answer (λ e. e ≢ OutOfMemory → IsRunRefused files table edits n k e)
  pub at_cause : (e : Fault) → IsRunRefused files table edits n k e → (answer ≡ Err e) ⊎ (answer ≡ Err OutOfMemory)
