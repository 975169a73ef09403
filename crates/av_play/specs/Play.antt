-- A tick in steps: workers take parts, turn their entries one after the other, and give the parts back.
use Rattle.std.specs.Prelude.{◌≡◌, ℕ, suc, List, [], ◌∷◌, ◌++◌, Option, Some, None, length, slice_set}
use Rattle.std.specs.List.{slice_get}
use Rattle.av_types.specs.declared.tick.Entry.{Entry}
use Rattle.av_types.specs.declared.tick.Made.{Made}
use Rattle.av_cells.specs.declared.kind.Kind.{Kind}
use Rattle.av_cells.specs.World.{World, Lists, listed_all}
use Rattle.av_cells.specs.Turn.{Change, turn}
use Rattle.av_ticks.specs.Entries.{made_order}
use Rattle.av_types.specs.Order.{ordered}
use Rattle.av_play.specs.declared.event.DueEntry.{DueEntry}
use Rattle.av_play.specs.declared.event.Stage.{Stage}
use Rattle.av_play.specs.declared.event.Stage.TheVariants.{Waits, Held, Ended}
use Rattle.av_play.specs.declared.event.Event.{Event}
use Rattle.av_play.specs.declared.event.Event.TheVariants.{Take, Turn, Back}
use Rattle.av_play.specs.Parts.{part_at}

-- a world with its chunks' lists
pub record Outcome : Type 0 where
  pub world : World
  pub lists : Lists

-- entries turned one after the other, each entry made appended to its chunk's list at once
abbrev pub in_order : (ℕ → Kind) → ℕ → List Entry → World → Lists → Outcome
in_order k now [] w lists = record { world = w; lists = lists }
in_order k now (e ∷ es) w lists = in_order k now es (turn k now e.pos w).world (listed_all lists (turn k now e.pos w).made)

-- entries with their maker's index, numbered from n
abbrev pub labelled : ℕ → ℕ → List Entry → List Made
labelled maker n [] = []
labelled maker n (e ∷ es) = record { maker = maker; number = n; entry = e } ∷ labelled maker (suc n) es

-- what the turn of an entry makes, and the world that it leaves
abbrev pub turn_of : (ℕ → Kind) → ℕ → DueEntry → World → Change
turn_of k now x w = turn k now x.entry.pos w

abbrev pub made_by : (ℕ → Kind) → ℕ → DueEntry → World → List Made
made_by k now x w = labelled x.index 0 (turn_of k now x w).made

-- the world after these entries were turned one after the other, and what they made
abbrev pub world_after : (ℕ → Kind) → ℕ → List DueEntry → World → World
world_after k now [] w = w
world_after k now (x ∷ xs) w = world_after k now xs (turn_of k now x w).world

abbrev pub made_after : (ℕ → Kind) → ℕ → List DueEntry → World → List Made
made_after k now [] w = []
made_after k now (x ∷ xs) w = made_by k now x w ++ made_after k now xs (turn_of k now x w).world

pub record State : Type 0 where
  pub world : World
  pub lists : Lists
  -- what was put aside
  pub made : List Made
  -- where each part is
  pub stages : List Stage

-- every part waits
abbrev pub all_wait : List (List DueEntry) → List Stage
all_wait [] = []
all_wait (p ∷ ps) = Waits ∷ all_wait ps

abbrev pub start : World → Lists → List (List DueEntry) → State
start w lists parts = record { world = w; lists = lists; made = []; stages = all_wait parts }

abbrev pub moved : State → ℕ → Stage → State
moved s n g = record { world = s.world; lists = s.lists; made = s.made; stages = slice_set s.stages n g }

-- worker holds part n, and its next entry is there
pub record HoldsEntry (parts : List (List DueEntry)) (s : State) (worker n : ℕ) : Type 0 where
  pub done : ℕ
  pub next : DueEntry
  pub held : slice_get s.stages n ≡ Some (Held worker done)
  pub left : slice_get (part_at parts n) done ≡ Some next

abbrev pub IsLawfulEvent : List (List DueEntry) → State → Event → Type 0
IsLawfulEvent parts s (Take worker n) = slice_get s.stages n ≡ Some Waits
IsLawfulEvent parts s (Turn worker n) = HoldsEntry parts s worker n
IsLawfulEvent parts s (Back worker n) = slice_get s.stages n ≡ Some (Held worker (length (part_at parts n)))

abbrev pub turned : (ℕ → Kind) → ℕ → State → (worker n done : ℕ) → Option DueEntry → State
turned k now s worker n done (Some x) =
    record { world = (turn_of k now x s.world).world; lists = s.lists; made = s.made ++ made_by k now x s.world; stages = slice_set s.stages n (Held worker (suc done)) }
turned k now s worker n done None = s

abbrev pub turned_if_held : (ℕ → Kind) → ℕ → List DueEntry → State → ℕ → Option Stage → State
turned_if_held k now part s n (Some (Held worker done)) = turned k now s worker n done (slice_get part done)
turned_if_held k now part s n _ = s

-- what a lawful event leaves
abbrev pub after : (ℕ → Kind) → ℕ → List (List DueEntry) → State → Event → State
after k now parts s (Take worker n) = moved s n (Held worker 0)
after k now parts s (Turn worker n) = turned_if_held k now (part_at parts n) s n (slice_get s.stages n)
after k now parts s (Back worker n) = moved s n Ended

abbrev pub AreLawful : (ℕ → Kind) → ℕ → List (List DueEntry) → State → List Event → Type 0
AreLawful k now parts s [] = Unit {0}
AreLawful k now parts s (e ∷ es) = IsLawfulEvent parts s e × AreLawful k now parts (after k now parts s e) es

abbrev pub play : (ℕ → Kind) → ℕ → List (List DueEntry) → State → List Event → State
play k now parts s [] = s
play k now parts s (e ∷ es) = play k now parts (after k now parts s e) es

abbrev pub AllBack : State → Type 0
AllBack s = (n : ℕ) (g : Stage) → slice_get s.stages n ≡ Some g → g ≡ Ended

abbrev pub entries_of : List Made → List Entry
entries_of [] = []
entries_of (m ∷ ms) = m.entry ∷ entries_of ms

-- a world, and lists to which what was put aside is appended, by the index of the maker and then by the number
abbrev pub gathered : World → Lists → List Made → Outcome
gathered w lists made = record { world = w; lists = listed_all lists (entries_of (ordered made_order made)) }

-- what a play leaves
abbrev pub outcome : State → Outcome
outcome s = gathered s.world s.lists s.made

-- lawful events that bring all parts back
pub record CanEnd (k : ℕ → Kind) (now : ℕ) (parts : List (List DueEntry)) (s : State) : Type 0 where
  pub events : List Event
  pub lawful : AreLawful k now parts s events
  pub back : AllBack (play k now parts s events)
