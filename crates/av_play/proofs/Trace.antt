-- A list of lawful events is a list of turns, in which each part's own turns stand in the part's order.
use Rattle.std.proofs.Common.{◌≡◌, ℕ, zero, suc, nat_eq, true, false, cond, List, [], ◌∷◌, ◌++◌, length, take, filter, slice_get, slice_set, Some, ◌⊎◌, inl, inr, refl, sym, ap, ◌∙◌, subst, append_assoc}
use Rattle.std.specs.List.{AllByRecursion, Contains}
use Rattle.std.proofs.lemmas.List.{append-nil}
use Rattle.std.proofs.lemmas.List.Elements.{filter-append, recursion_from_All, All-contains_itself}
use Rattle.av_cells.specs.declared.kind.Kind.{Kind}
use Rattle.av_cells.specs.World.{World, Lists}
use Rattle.av_play.specs.declared.event.DueEntry.{DueEntry}
use Rattle.av_play.specs.declared.event.Stage.{Stage}
use Rattle.av_play.specs.declared.event.Event.{Event}
use Rattle.av_play.specs.declared.event.Stage.TheVariants.{Waits, Held, Ended}
use Rattle.av_play.specs.declared.event.Event.TheVariants.{Take, Turn, Back}
use Rattle.av_play.specs.Parts.{part_at}
use Rattle.av_play.specs.Play.{turn_of, made_by, world_after, made_after, State, start, all_wait, moved, HoldsEntry, IsLawfulEvent, turned, turned_if_held, after, AreLawful, play}
use Rattle.av_play.specs.Laws.{done_of, done_in}
use Rattle.av_play.proofs.Lists.{each_push, each_chosen, each_at, take_one_more, at_set, other_number}

pub known_all : (all : List DueEntry) → AllByRecursion (Contains all) all
known_all all = recursion_from_All (Contains all) all (All-contains_itself all)

abbrev pub of_part : (ℕ → ℕ) → ℕ → List DueEntry → List DueEntry
of_part part_of n es = filter (λ x. nat_eq (part_of x.index) n) es

-- what the state owes to a list of turns
pub record IsTraced (k : ℕ → Kind) (now : ℕ) (w : World) (lists : Lists) (all : List DueEntry) (parts : List (List DueEntry)) (part_of : ℕ → ℕ) (s : State) (es : List DueEntry) : Type 0 where
  pub world : s.world ≡ world_after k now es w
  pub made : s.made ≡ made_after k now es w
  pub lists_same : s.lists ≡ lists
  pub among : AllByRecursion (Contains all) es
  pub progress : (n : ℕ) → of_part part_of n es ≡ done_in parts s n

pub world_push : (k : ℕ → Kind) (now : ℕ) (es : List DueEntry) (x : DueEntry) (w : World) → world_after k now (es ++ x ∷ []) w ≡ (turn_of k now x (world_after k now es w)).world
world_push k now [] x w = refl
world_push k now (y ∷ ys) x w = world_push k now ys x (turn_of k now y w).world

pub made_push : (k : ℕ → Kind) (now : ℕ) (es : List DueEntry) (x : DueEntry) (w : World) → made_after k now (es ++ x ∷ []) w ≡ made_after k now es w ++ made_by k now x (world_after k now es w)
made_push k now [] x w = append-nil (made_by k now x w)
made_push k now (y ∷ ys) x w = ap (λ l. made_by k now y w ++ l) (made_push k now ys x (turn_of k now y w).world) ∙ sym (append_assoc (made_by k now y w) _ _)

-- a stage at which as many entries are turned as before
stage_same : (part : List DueEntry) (stages : List Stage) (n m : ℕ) (old new : Stage) → slice_get stages n ≡ Some old → (m ≡ n → done_of part (Some new) ≡ done_of part (Some old))
    → done_of part (slice_get (slice_set stages n new) m) ≡ done_of part (slice_get stages m)
stage_same part stages n m old new e same = by (at_set stages n m old new e) where
  by : ((m ≡ n) × (slice_get (slice_set stages n new) m ≡ Some new)) ⊎ ((¬ (m ≡ n)) × (slice_get (slice_set stages n new) m ≡ slice_get stages m))
      → done_of part (slice_get (slice_set stages n new) m) ≡ done_of part (slice_get stages m)
  by (inl h) = ap (done_of part) h.1 ∙ same h.0 ∙ ap (done_of part) (sym e ∙ ap (slice_get stages) (sym h.0))
  by (inr h) = ap (done_of part) h.1

module _ (k : ℕ → Kind) (now : ℕ) (w : World) (lists : Lists) (all : List DueEntry) (parts : List (List DueEntry)) (part_of : ℕ → ℕ) (each : (n : ℕ) → part_at parts n ≡ of_part part_of n all) where
  abbrev Traced : State → List DueEntry → Type 0
  Traced s es = IsTraced k now w lists all parts part_of s es

  moved_traced : (s : State) (es : List DueEntry) (n : ℕ) (old new : Stage) → Traced s es → slice_get s.stages n ≡ Some old → done_of (part_at parts n) (Some new) ≡ done_of (part_at parts n) (Some old) → Traced (moved s n new) es
  moved_traced s es n old new t e same =
      record {
        world = t.world;
        made = t.made;
        lists_same = t.lists_same;
        among = t.among;
        progress = λ m. t.progress m ∙ ap (λ c. take c (part_at parts m)) (sym (stage_same (part_at parts m) s.stages n m old new e (λ g. ap (λ i. done_of (part_at parts i) (Some new)) g ∙ same ∙ ap (λ i. done_of (part_at parts i) (Some old)) (sym g))));
      }

  after_turn : (s : State) (worker n : ℕ) (h : HoldsEntry parts s worker n) → after k now parts s (Turn worker n) ≡ turned k now s worker n h.done (Some h.next)
  after_turn s worker n h = ap (turned_if_held k now (part_at parts n) s n) h.held ∙ ap (turned k now s worker n h.done) h.left

  turn_traced : (s : State) (es : List DueEntry) (worker n : ℕ) → Traced s es → (h : HoldsEntry parts s worker n) → Traced (turned k now s worker n h.done (Some h.next)) (es ++ h.next ∷ [])
  turn_traced s es worker n t h =
      let x : DueEntry = h.next in
      let known : (nat_eq (part_of x.index) n ≡ true) × Contains all x =
      each_at (λ y. (nat_eq (part_of y.index) n ≡ true) × Contains all y) (of_part part_of n all) h.done x
      (each_chosen (Contains all) (λ y. nat_eq (part_of y.index) n) all (known_all all)) (ap (λ l. slice_get l h.done) (sym (each n)) ∙ h.left) in
      record {
        world = ap (λ v. (turn_of k now x v).world) t.world ∙ sym (world_push k now es x w);
        made = (λ i. t.made i ++ made_by k now x (t.world i)) ∙ sym (made_push k now es x w);
        lists_same = t.lists_same;
        among = each_push (Contains all) es x t.among known.1;
        progress = λ m. by m known.0 (at_set s.stages n m (Held worker h.done) (Held worker (suc h.done)) h.held);
      }
    where
      by : (m : ℕ) → nat_eq (part_of h.next.index) n ≡ true
          → ((m ≡ n) × (slice_get (slice_set s.stages n (Held worker (suc h.done))) m ≡ Some (Held worker (suc h.done)))) ⊎ ((¬ (m ≡ n)) × (slice_get (slice_set s.stages n (Held worker (suc h.done))) m ≡ slice_get s.stages m))
          → of_part part_of m (es ++ h.next ∷ []) ≡ take (done_of (part_at parts m) (slice_get (slice_set s.stages n (Held worker (suc h.done))) m)) (part_at parts m)
      by m own (inl g) =
          let st : slice_get s.stages m ≡ Some (Held worker h.done) = ap (slice_get s.stages) g.0 ∙ h.held in
          let lf : slice_get (part_at parts m) h.done ≡ Some h.next = ap (λ i. slice_get (part_at parts i) h.done) g.0 ∙ h.left in
          let tr : nat_eq (part_of h.next.index) m ≡ true = ap (λ i. nat_eq (part_of h.next.index) i) g.0 ∙ own in
          let front : of_part part_of m es ≡ take h.done (part_at parts m) = t.progress m ∙ ap (λ o. take (done_of (part_at parts m) o) (part_at parts m)) st in
          filter-append (λ y. nat_eq (part_of y.index) m) es (h.next ∷ [])
          ∙ (λ i. front i ++ cond (tr i) (h.next ∷ []) [])
          ∙ sym (take_one_more (part_at parts m) h.done h.next lf)
          ∙ ap (λ o. take (done_of (part_at parts m) o) (part_at parts m)) (sym g.1)
      by m own (inr g) =
          let fa : nat_eq (part_of h.next.index) m ≡ false = other_number (part_of h.next.index) m n own g.0 in
          filter-append (λ y. nat_eq (part_of y.index) m) es (h.next ∷ [])
          ∙ (λ i. t.progress m i ++ cond (fa i) (h.next ∷ []) [])
          ∙ append-nil _
          ∙ ap (λ o. take (done_of (part_at parts m) o) (part_at parts m)) (sym g.1)

  step_traced : (s : State) (es : List DueEntry) (e : Event) → Traced s es → IsLawfulEvent parts s e → (fs : List DueEntry) × Traced (after k now parts s e) fs
  step_traced s es (Take worker n) t h = (es, moved_traced s es n Waits (Held worker 0) t h refl)
  step_traced s es (Turn worker n) t h = (es ++ h.next ∷ [], subst (λ u. Traced u (es ++ h.next ∷ [])) (sym (after_turn s worker n h)) (turn_traced s es worker n t h))
  step_traced s es (Back worker n) t h = (es, moved_traced s es n (Held worker (length (part_at parts n))) Ended t h refl)

  pub play_traced : (events : List Event) (s : State) (es : List DueEntry) → Traced s es → AreLawful k now parts s events → (fs : List DueEntry) × Traced (play k now parts s events) fs
  play_traced [] s es t h = (es, t)
  play_traced (e ∷ rest) s es t h = let one = step_traced s es e t h.0 in play_traced rest (after k now parts s e) one.0 one.1 h.1

  start_done : (ps : List (List DueEntry)) (n : ℕ) → take (done_of (part_at ps n) (slice_get (all_wait ps) n)) (part_at ps n) ≡ []
  start_done [] n = refl
  start_done (p ∷ ps) zero = refl
  start_done (p ∷ ps) (suc n) = start_done ps n

  pub start_traced : Traced (start w lists parts) []
  start_traced = record { world = refl; made = refl; lists_same = refl; among = tt; progress = λ n. sym (start_done parts n) }
