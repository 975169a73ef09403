-- What a run would change, where it is only asked for that.
use Rattle.std.specs.Prelude.{◌≡◌, ℕ, List, Option, Ok}
use Rattle.av_changes.specs.Changes.{AreChangesByName}
use Rattle.av_requests.specs.declared.requests.Inputs.{Inputs}
use Rattle.av_requests.specs.declared.requests.Request.{Request}
use Rattle.av_outcomes.specs.Telling.{HasTold, outcome_files}
use Rattle.av_outcomes.specs.declared.telling.Foreseen.{Foreseen}
use Rattle.av_program.specs.RunCommand.{IsRunOf}

-- a run of what was read, and what it would change. Which bytes the files of the output folder have, no clause can say.
pub record IsForeseen (q : Request) (foreseen : Foreseen) : Type 0 where
  pub inputs : Inputs
  pub run : IsRunOf q inputs (Ok foreseen.ran)
  pub changes : AreChangesByName (outcome_files foreseen.ran) foreseen.changes.items

-- the same with what was read, or nothing and 1
pub data HasRunDry (q : Request) (before after : Option (List ℕ)) (status : ℕ) : Type 0 where
  foreseen : (f : Foreseen) → IsForeseen q f → HasTold f before after status → HasRunDry q before after status
  not_foreseen : after ≡ before → status ≡ 1 → HasRunDry q before after status
