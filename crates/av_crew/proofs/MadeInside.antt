-- What turns make, brought together and ordered, is of loaded blocks.
use Rattle.std.proofs.Common.{ℕ, suc, Bool, true, false, cond, List, [], ◌∷◌, IsTrue, subst}
use Rattle.std.specs.declared.cmp.Ordering.{Ordering}
use Rattle.std.specs.Ordering.{is_lt}
use Rattle.std.specs.List.{AllByRecursion, flat_map}
use Rattle.av_types.proofs.Each.{each_append}
use Rattle.av_types.specs.declared.position.Pos.{Pos}
use Rattle.av_types.specs.declared.tick.Entry.{Entry}
use Rattle.av_types.specs.declared.tick.Made.{Made}
use Rattle.av_types.specs.Order.{inserted, ordered}
use Rattle.av_cells.specs.declared.kind.Kind.{Kind}
use Rattle.av_cells.specs.World.{World}
use Rattle.av_water.proofs.Inside.{turn_kept}
use Rattle.av_play.specs.declared.event.DueEntry.{DueEntry}
use Rattle.av_play.specs.Play.{turn_of, made_by, labelled, made_after}
use Rattle.av_crew.proofs.LandOrder.{AllIn, turn_inside}

-- each was made of a block of these
abbrev pub AllMadeIn : (Pos → Bool) → List Made → Type 0
AllMadeIn L ms = AllByRecursion (λ m. IsTrue (L m.entry.pos)) ms

labelled_in : (L : Pos → Bool) (maker n : ℕ) (es : List Entry) → AllIn L es → AllMadeIn L (labelled maker n es)
labelled_in L maker n [] h = tt
labelled_in L maker n (e ∷ es) h = (h.0, labelled_in L maker (suc n) es h.1)

pub made_inside : (k : ℕ → Kind) (now : ℕ) (xs : List DueEntry) (w : World) → AllMadeIn w.loaded (made_after k now xs w)
made_inside k now [] w = tt
made_inside k now (x ∷ xs) w =
    each_append (λ m. IsTrue (w.loaded m.entry.pos)) (made_by k now x w) (made_after k now xs (turn_of k now x w).world)
    (labelled_in w.loaded x.index 0 (turn_of k now x w).made (turn_inside k now x.entry.pos w))
    (subst (λ (L : Pos → Bool). AllMadeIn L (made_after k now xs (turn_of k now x w).world)) (turn_kept k now x.entry.pos w).kept_loaded (made_inside k now xs (turn_of k now x w).world))

pub flat_inside : {X : Type 0} (L : Pos → Bool) (f : X → List Made) (xs : List X) → AllByRecursion (λ x. AllMadeIn L (f x)) xs → AllMadeIn L (flat_map f xs)
flat_inside L f [] h = tt
flat_inside L f (x ∷ xs) h = each_append (λ m. IsTrue (L m.entry.pos)) (f x) (flat_map f xs) h.0 (flat_inside L f xs h.1)

inserted_all : {X : Type 0} (P : X → Type 0) (cmp : X → X → Ordering) (x : X) (ys : List X) → P x → AllByRecursion P ys → AllByRecursion P (inserted cmp x ys)
inserted_all P cmp x [] p h = (p, tt)
inserted_all {X} P cmp x (y ∷ ys) p h = by (is_lt (cmp y x)) (inserted_all P cmp x ys p h.1) where
  by : (b : Bool) → AllByRecursion P (inserted cmp x ys) → AllByRecursion P (cond b (y ∷ inserted cmp x ys) (x ∷ y ∷ ys))
  by true r = (h.0, r)
  by false r = (p, h)

pub ordered_all : {X : Type 0} (P : X → Type 0) (cmp : X → X → Ordering) (xs : List X) → AllByRecursion P xs → AllByRecursion P (ordered cmp xs)
ordered_all P cmp [] h = tt
ordered_all P cmp (x ∷ xs) h = inserted_all P cmp x (ordered cmp xs) h.0 (ordered_all P cmp xs h.1)
