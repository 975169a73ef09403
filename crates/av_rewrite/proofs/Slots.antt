-- A slot among those that were read, and what is written of them in order.
use Rattle.std.proofs.Common.{◌≡◌, ◌++◌, ◌∷◌, ◌+◌, ◌∙◌, [], List, Option, Some, ℕ, arith, length, map, refl, sym, subst, ap}
use Rattle.std.specs.List.{slice_get}
use Rattle.std.proofs.lemmas.List.{length-append}
use Rattle.av_types.specs.declared.position.Height.{Height}
use Rattle.av_state.specs.BlockState.{BlockState}
use Rattle.av_rewrite.specs.declared.rewriting.Slot.{Slot}
use Rattle.av_rewrite.specs.Regions.{AreMadeOf, IsMadeOf}
use Rattle.av_rewrite.specs.Rewriting.{AreSlots, IsSlotRead, SlotWasRead, SlotsWereRead}
use Rattle.av_rewrite.proofs.Growing.{one_more_seen}

at_seam : {X : Type 0} (xs : List X) (x : X) (ys : List X) → slice_get (xs ++ x ∷ ys) (length xs) ≡ Some x
at_seam [] x ys = refl
at_seam (z ∷ xs) x ys = at_seam xs x ys

-- the slot behind those that are done
pub slot_here : (h : Height) (region : List ℕ) (table : List BlockState) (count : ℕ) (slots done : List Slot) (slot : Slot) (left : List Slot)
    → done ++ slot ∷ left ≡ slots → AreSlots h region table count slots → IsSlotRead h region table (length done) slot
slot_here h region table count slots done slot left split s =
    s.each (length done) slot (subst (λ (xs : List Slot). slice_get xs (length done) ≡ Some slot) split (at_seam done slot left))

pub read_here : (table : List BlockState) (sections : ℕ) (slots done : List Slot) (slot : Slot) (left : List Slot)
    → done ++ slot ∷ left ≡ slots → SlotsWereRead table sections slots → SlotWasRead table sections slot
read_here table sections slots done slot left split w = record {
  height = w.height;
  region = w.region;
  index = length done;
  is_slot = slot_here w.height w.region table w.count slots done slot left split w.are_slots;
  lit = w.lit;
}

-- one more payload, for one more slot that is done
pub made_here : {X : Type 0} (view : X → Option (List ℕ)) (Made : ℕ → List ℕ → List ℕ → Type 0) (region : List ℕ) (done : List Slot) (slot : Slot) (before after : List X) (x : X)
    → after ≡ before ++ x ∷ [] → AreMadeOf Made region (length done) (map view before) → IsMadeOf Made region (length done) (view x)
    → AreMadeOf Made region (length (done ++ slot ∷ [])) (map view after)
made_here view Made region done slot before after x pushed_is known new =
    subst (λ (n : ℕ). AreMadeOf Made region n (map view after)) (sym (length-append done (slot ∷ []))) (one_more_seen view Made region (length done) before after x pushed_is known new)

-- when no slot is left
pub made_all : {X : Type 0} (view : X → Option (List ℕ)) (Made : ℕ → List ℕ → List ℕ → Type 0) (h : Height) (region : List ℕ) (table : List BlockState) (count : ℕ) (slots done left : List Slot) (payloads : List X)
    → done ++ left ≡ slots → length left ≡ 0 → AreSlots h region table count slots → AreMadeOf Made region (length done) (map view payloads) → AreMadeOf Made region count (map view payloads)
made_all view Made h region table count slots done left payloads split none s made =
    let all : length done + length left ≡ length slots = sym (length-append done left) ∙ ap length split in
    let many : length done ≡ count = omega (arith, all, none, s.many) in
    subst (λ (n : ℕ). AreMadeOf Made region n (map view payloads)) many made
