-- What was read of each chunk, while the table of states grows.
use Rattle.std.proofs.Common.{◌≡◌, ◌++◌, ◌∷◌, ◌+◌, [], List, ℕ, sym, subst, ap, ◌∙◌}
use Rattle.std.proofs.lemmas.List.{length_push}
use Rattle.av_types.specs.declared.position.Height.{Height}
use Rattle.av_state.specs.BlockState.{BlockState}
use Rattle.av_section.specs.Reading.{OnlyGrows}
use Rattle.av_section.proofs.Numbers.{OnlyGrows-trans}
use Rattle.av_rewrite.specs.declared.rewriting.Slot.{Slot}
use Rattle.av_rewrite.specs.declared.rewriting.Slot.TheVariants.{Absent, Kept, Full}
use Rattle.av_rewrite.specs.Rewriting.{AreSlots, IsSlotRead}
use Rattle.av_rewrite.proofs.Growing.{pushed_each}

-- what was read stays what it was while the table grows
slot_grown : (h : Height) (region : List ℕ) (old new : List BlockState) (index : ℕ) (slot : Slot) → OnlyGrows old new → IsSlotRead h region old index slot → IsSlotRead h region new index slot
slot_grown h region old new index Absent more s = s
slot_grown h region old new index (Kept payload) more s = s
slot_grown h region old new index (Full chunk rest) more s = record {
  payload = s.payload;
  held = s.held;
  document = s.document;
  spelled = s.spelled;
  old = s.old;
  new = s.new;
  loaded = s.loaded;
  grown = OnlyGrows-trans s.new old new s.grown more;
}

-- one more slot, by which the table grew
pub one_more_slot : (h : Height) (region : List ℕ) (old new : List BlockState) (n : ℕ) (before after : List Slot) (slot : Slot)
    → after ≡ before ++ slot ∷ [] → OnlyGrows old new → AreSlots h region old n before → IsSlotRead h region new n slot → AreSlots h region new (n + 1) after
one_more_slot h region old new n before after slot pushed_is more known last =
    subst (λ (xs : List Slot). AreSlots h region new (n + 1) xs) (sym pushed_is) (record {
      many = length_push before slot ∙ ap (λ k. k + 1) known.many;
      each = pushed_each (IsSlotRead h region new) before slot n known.many last (λ i s e. slot_grown h region old new i s more (known.each i s e));
    })
