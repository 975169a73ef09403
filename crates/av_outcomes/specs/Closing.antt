-- What a run does in a folder in which another was cut off, and how it leaves its own.
use Rattle.std.specs.Prelude.{◌≡◌, ◌≢◌, ◌||◌, ℕ, Bool, is_none}
use Rattle.av_sink.specs.Account.{Account, with_end}
use Rattle.av_sink.specs.declared.sink.Repair.{Repair}

-- whether a run goes on, by what was found in its folder: not where one that was cut off is finished first, unless it is to be run again
abbrev pub goes_on : Bool → Repair → Bool
goes_on again r = again || is_none r.finished

-- A folder is left, by what it took before and after and by the status of the run before and after: a run that failed leaves it as it is, so that
-- the next command tells of it; else it is noted that all is told, or the status is 1.
pub data IsLeft (old new : Account) : ℕ → ℕ → Type 0 where
  failed : (status : ℕ) → status ≢ 0 → new ≡ old → IsLeft old new status status
  ended : new ≡ with_end old → IsLeft old new 0 0
  not_ended : new ≡ old → IsLeft old new 0 1
