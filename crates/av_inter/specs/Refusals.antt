-- When an event is refused.
use Rattle.std.specs.Prelude.{◌≡◌, ℕ, nat_eq, if◌then◌else◌, List, Option, Some, None, length}
use Rattle.std.specs.List.{slice_get}
use Rattle.av_play.specs.declared.event.DueEntry.{DueEntry}
use Rattle.av_play.specs.declared.event.Stage.{Stage}
use Rattle.av_play.specs.declared.event.Stage.TheVariants.{Waits, Held}
use Rattle.av_play.specs.declared.event.Event.{Event}
use Rattle.av_play.specs.declared.event.Event.TheVariants.{Take, Turn, Back}
use Rattle.av_play.specs.Parts.{part_at}
use Rattle.av_play.specs.Play.{State, AllBack, HoldsEntry}
use Rattle.av_inter.specs.declared.refused.Refused.{Refused}
use Rattle.av_inter.specs.declared.refused.Refused.TheVariants.{NotWaiting, NotHolder, NoEntry, NotDone, NoMemory}

-- how many entries of the part a worker that holds it has turned
abbrev pub done_by : ℕ → Option Stage → Option ℕ
done_by worker (Some (Held holder done)) = if nat_eq holder worker then Some done else None
done_by worker _ = None

-- Memory may be refused to a lawful turn alone. Every other refusal says why the event is not lawful.
abbrev pub IsEventRefusal : List (List DueEntry) → State → Event → Refused → Type 0
IsEventRefusal parts s (Take worker n) NotWaiting = ¬ (slice_get s.stages n ≡ Some Waits)
IsEventRefusal parts s (Turn worker n) NotHolder = (done : ℕ) → ¬ (slice_get s.stages n ≡ Some (Held worker done))
IsEventRefusal parts s (Turn worker n) NoEntry = (done : ℕ) × (slice_get s.stages n ≡ Some (Held worker done)) × (slice_get (part_at parts n) done ≡ None)
IsEventRefusal parts s (Turn worker n) NoMemory = HoldsEntry parts s worker n
IsEventRefusal parts s (Back worker n) NotHolder = (done : ℕ) → ¬ (slice_get s.stages n ≡ Some (Held worker done))
IsEventRefusal parts s (Back worker n) NotDone = (done : ℕ) × (slice_get s.stages n ≡ Some (Held worker done)) × (¬ (done ≡ length (part_at parts n)))
IsEventRefusal parts s event refused = ⊥

-- why a core can't be finished: a part is not back, or memory was refused
abbrev pub IsUnfinished : State → Refused → Type 0
IsUnfinished s NotDone = ¬ AllBack s
IsUnfinished s NoMemory = AllBack s
IsUnfinished s refused = ⊥
