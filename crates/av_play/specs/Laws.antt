-- What holds after every list of lawful events.
use Rattle.std.specs.Prelude.{◌≡◌, ℕ, zero, nat_eq, Bool, List, [], ◌∷◌, Option, Some, None, length, take}
use Rattle.std.specs.List.{filter, slice_get}
use Rattle.av_types.specs.declared.tick.Made.{Made}
use Rattle.av_types.specs.declared.position.Pos.{Pos}
use Rattle.av_cells.specs.declared.kind.Kind.{Kind}
use Rattle.av_cells.specs.World.{World, Lists}
use Rattle.av_water.specs.Frame.{Agree}
use Rattle.av_play.specs.declared.event.DueEntry.{DueEntry}
use Rattle.av_play.specs.declared.event.Stage.{Stage}
use Rattle.av_play.specs.declared.event.Stage.TheVariants.{Waits, Held, Ended}
use Rattle.av_play.specs.Partition as divided
pub use Rattle.av_play.specs.Parts.{IsOfPart}
use Rattle.av_play.specs.Parts.{part_at}
use Rattle.av_play.specs.Play.{State, turn_of, made_by, world_after, made_after}

-- two entries turned in either order leave the same blocks, and each puts the same aside, under its index and the same numbers
pub record EntriesCommute (k : ℕ → Kind) (now : ℕ) (x y : DueEntry) (w : World) : Type 0 where
  pub same_world : world_after k now (x ∷ y ∷ []) w ≡ world_after k now (y ∷ x ∷ []) w
  pub same_first : made_by k now x w ≡ made_by k now x (turn_of k now y w).world
  pub same_second : made_by k now y (turn_of k now x w).world ≡ made_by k now y w

-- how many of its entries were turned
abbrev pub done_of : List DueEntry → Option Stage → ℕ
done_of part (Some Waits) = zero
done_of part (Some (Held worker done)) = done
done_of part (Some Ended) = length part
done_of part None = length part

abbrev pub done_in : List (List DueEntry) → State → ℕ → List DueEntry
done_in parts s n = take (done_of (part_at parts n) (slice_get s.stages n)) (part_at parts n)

-- what was put aside for these makers
abbrev pub made_for : (ℕ → Bool) → List Made → List Made
made_for b ms = filter (λ m. b m.maker) ms

-- a world, and what was put aside: each part's sections are as these entries of it alone leave them from w on, each
-- block of no part's section is as in w, and what the makers of a part put aside is what these entries alone make
pub record IsAsAlone {S : Type 0} (division : Pos → S) (k : ℕ → Kind) (now : ℕ) (w : World) (parts : List (List DueEntry)) (part_of : ℕ → ℕ) (done : ℕ → List DueEntry) (v : World) (made : List Made) : Type 0 where
  pub loaded : v.loaded ≡ w.loaded
  pub sections : (n : ℕ) → Agree (λ q. divided.IsOfPart division w (part_at parts n) (division q)) v (world_after k now (done n) w)
  pub elsewhere : Agree (λ q. (n : ℕ) → ¬ divided.IsOfPart division w (part_at parts n) (division q)) v w
  pub put_aside : (n : ℕ) → made_for (λ i. nat_eq (part_of i) n) made ≡ made_after k now (done n) w

-- a worker holds the part
pub record IsHeld (s : State) (n : ℕ) : Type 0 where
  pub worker : ℕ
  pub done : ℕ
  pub held : slice_get s.stages n ≡ Some (Held worker done)

-- A state after lawful events: no section lies in the territories of two held parts, each part's sections are as its own first turned
-- entries alone leave them, and the chunks' lists are as they were.
pub record IsAfterEvents {S : Type 0} (division : Pos → S) (k : ℕ → Kind) (now : ℕ) (w : World) (lists : Lists) (parts : List (List DueEntry)) (part_of : ℕ → ℕ) (s : State) : Type 0 where
  pub apart : (m n : ℕ) (x : S) → ¬ (m ≡ n) → IsHeld s m → IsHeld s n → divided.IsOfPart division s.world (part_at parts m) x → ¬ divided.IsOfPart division s.world (part_at parts n) x
  pub alone : IsAsAlone division k now w parts part_of (done_in parts s) s.world s.made
  pub lists_same : s.lists ≡ lists
