-- Every tick can be played: one worker takes one part after the other.
use Rattle.std.proofs.Common.{◌≡◌, ℕ, zero, suc, ◌+◌, ◌<◌, ◌≤◌, List, [], ◌∷◌, ◌++◌, length, slice_get, slice_set, Some, None, ◌⊎◌, inl, inr, refl, sym, ap, ◌∙◌, subst, arith, append_assoc}
use Rattle.std.proofs.lemmas.List.{append-nil}
use Rattle.std.proofs.lemmas.Bool.{cases_lt}
use Rattle.av_cells.specs.declared.kind.Kind.{Kind}
use Rattle.av_cells.specs.World.{World, Lists}
use Rattle.av_play.specs.declared.event.DueEntry.{DueEntry}
use Rattle.av_play.specs.declared.event.Stage.{Stage}
use Rattle.av_play.specs.declared.event.Stage.TheVariants.{Waits, Held, Ended}
use Rattle.av_play.specs.declared.event.Event.{Event}
use Rattle.av_play.specs.declared.event.Event.TheVariants.{Take, Turn, Back}
use Rattle.av_play.specs.Parts.{part_at, count_of}
use Rattle.av_play.specs.Play.{State, start, all_wait, moved, HoldsEntry, IsLawfulEvent, turned, turned_if_held, after, CanEnd}
use Rattle.av_play.proofs.Lists.{at_set}

set_same : {X : Type 0} (xs : List X) (n : ℕ) (old new : X) → slice_get xs n ≡ Some old → slice_get (slice_set xs n new) n ≡ Some new
set_same {X} xs n old new e = by (at_set xs n n old new e) where
  by : ((n ≡ n) × (slice_get (slice_set xs n new) n ≡ Some new)) ⊎ ((¬ (n ≡ n)) × (slice_get (slice_set xs n new) n ≡ slice_get xs n)) → slice_get (slice_set xs n new) n ≡ Some new
  by (inl h) = h.1
  by (inr h) = absurd (h.0 refl)

set_other : {X : Type 0} (xs : List X) (n m : ℕ) (old new : X) → slice_get xs n ≡ Some old → ¬ (m ≡ n) → slice_get (slice_set xs n new) m ≡ slice_get xs m
set_other {X} xs n m old new e f = by (at_set xs n m old new e) where
  by : ((m ≡ n) × (slice_get (slice_set xs n new) m ≡ Some new)) ⊎ ((¬ (m ≡ n)) × (slice_get (slice_set xs n new) m ≡ slice_get xs m)) → slice_get (slice_set xs n new) m ≡ slice_get xs m
  by (inl h) = absurd (f h.0)
  by (inr h) = h.1

next_of : (front : List DueEntry) (x : DueEntry) (rest : List DueEntry) → slice_get (front ++ x ∷ rest) (length front) ≡ Some x
next_of [] x rest = refl
next_of (y ∷ ys) x rest = next_of ys x rest

length_one_more : (front : List DueEntry) (x : DueEntry) → length (front ++ x ∷ []) ≡ suc (length front)
length_one_more [] x = refl
length_one_more (y ∷ ys) x = ap suc (length_one_more ys x)

module _ (k : ℕ → Kind) (now : ℕ) (parts : List (List DueEntry)) where
  one_event : (s : State) (e : Event) → IsLawfulEvent parts s e → CanEnd k now parts (after k now parts s e) → CanEnd k now parts s
  one_event s e h c = record { events = e ∷ c.events; lawful = (h, c.lawful); back = c.back }

  -- part n ended, and the others where they were
  record IsEnded (n : ℕ) (s t : State) : Type 0 where
    ended : slice_get t.stages n ≡ Some Ended
    others : (m : ℕ) → ¬ (m ≡ n) → slice_get t.stages m ≡ slice_get s.stages m

  finish : (n : ℕ) (rest front : List DueEntry) (s : State) → part_at parts n ≡ front ++ rest → slice_get s.stages n ≡ Some (Held 0 (length front)) → ((t : State) → IsEnded n s t → CanEnd k now parts t) → CanEnd k now parts s
  finish n [] front s p h go =
      let all : part_at parts n ≡ front = p ∙ append-nil front in
      one_event s (Back 0 n) (h ∙ ap (λ (l : List DueEntry). Some (Held 0 (length l))) (sym all))
      (go (moved s n Ended) (record { ended = set_same s.stages n _ Ended h; others = λ m f. set_other s.stages n m _ Ended h f }))
  finish n (x ∷ rest) front s p h go =
      let e : HoldsEntry parts s 0 n = record { done = length front; next = x; held = h; left = ap (λ l. slice_get l (length front)) p ∙ next_of front x rest } in
      let is : after k now parts s (Turn 0 n) ≡ turned k now s 0 n (length front) (Some x) = ap (turned_if_held k now (part_at parts n) s n) e.held ∙ ap (turned k now s 0 n (length front)) e.left in
      one_event s (Turn 0 n) e
      (subst (CanEnd k now parts) (sym is)
      (finish n rest (front ++ x ∷ []) (turned k now s 0 n (length front) (Some x)) (p ∙ sym (append_assoc front (x ∷ []) rest))
      (set_same s.stages n _ _ h ∙ ap (λ (j : ℕ). Some (Held 0 j)) (sym (length_one_more front x)))
      (λ t i. go t (record { ended = i.ended; others = λ m f. i.others m f ∙ set_other s.stages n m _ _ h f }))))

  -- the first parts ended, so many more wait, and there are no others
  record AreWaiting (first more : ℕ) (s : State) : Type 0 where
    past : (m : ℕ) → m < first → slice_get s.stages m ≡ Some Ended
    ahead : (m : ℕ) → first ≤ m → m < first + more → slice_get s.stages m ≡ Some Waits
    none : (m : ℕ) → first + more ≤ m → slice_get s.stages m ≡ None

  all_end : (more first : ℕ) (s : State) → AreWaiting first more s → CanEnd k now parts s
  all_end zero first s a = record { events = []; lawful = tt; back = λ n g e. by n g e (cases_lt n first) } where
    by : (n : ℕ) (g : Stage) → slice_get s.stages n ≡ Some g → (n < first) ⊎ (first ≤ n) → g ≡ Ended
    by n g e (inl h) = let f = a.past n h in cc
    by n g e (inr h) = let f = a.none n (omega arith) in cc
  all_end (suc more) first s a =
      let w : slice_get s.stages first ≡ Some Waits = a.ahead first (omega arith) (omega arith) in
      one_event s (Take 0 first) w
      (finish first (part_at parts first) [] (moved s first (Held 0 0)) refl (set_same s.stages first Waits (Held 0 0) w)
      (λ t i. all_end more (suc first) t (next t i w)))
    where
      next : (t : State) → IsEnded first (moved s first (Held 0 0)) t → slice_get s.stages first ≡ Some Waits → AreWaiting (suc first) more t
      next t i w =
          record {
            past = λ m h. by m h (cases_lt m first);
            ahead = λ m h l. i.others m (λ e. omega arith) ∙ set_other s.stages first m Waits (Held 0 0) w (λ e. omega arith) ∙ a.ahead m (omega arith) (omega arith);
            none = λ m h. i.others m (λ e. omega arith) ∙ set_other s.stages first m Waits (Held 0 0) w (λ e. omega arith) ∙ a.none m (omega arith);
          }
        where
          by : (m : ℕ) → m < suc first → (m < first) ⊎ (first ≤ m) → slice_get t.stages m ≡ Some Ended
          by m h (inl l) = i.others m (λ e. omega arith) ∙ set_other s.stages first m Waits (Held 0 0) w (λ e. omega arith) ∙ a.past m l
          by m h (inr l) = let e : m ≡ first = omega arith in ap (slice_get t.stages) e ∙ i.ended

wait_at : (ps : List (List DueEntry)) (m : ℕ) → m < count_of ps → slice_get (all_wait ps) m ≡ Some Waits
wait_at [] m h = absurd (omega arith)
wait_at (p ∷ ps) zero h = refl
wait_at (p ∷ ps) (suc m) h = wait_at ps m (omega arith)

wait_past : (ps : List (List DueEntry)) (m : ℕ) → count_of ps ≤ m → slice_get (all_wait ps) m ≡ None
wait_past [] m h = refl
wait_past (p ∷ ps) zero h = absurd (omega arith)
wait_past (p ∷ ps) (suc m) h = wait_past ps m (omega arith)

pub can_end : (k : ℕ → Kind) (now : ℕ) (parts : List (List DueEntry)) (w : World) (lists : Lists) → CanEnd k now parts (start w lists parts)
can_end k now parts w lists =
    all_end k now parts (count_of parts) 0 (start w lists parts)
    (record { past = λ m h. absurd (omega arith); ahead = λ m h l. wait_at parts m (omega arith); none = λ m h. wait_past parts m (omega arith) })
