-- Things at the indices of a list, of which one is filled, emptied or read.
use Rattle.std.proofs.Common.{◌≡◌, ℕ, zero, suc, ◌<◌, List, [], ◌∷◌, length, get_or, set, Option, None, sym, subst, ◌∙◌}
use Rattle.std.specs.Prelude.{IfSome}
use Rattle.std.proofs.lemmas.List.{get_or_default}
use Rattle.av_dealt.specs.Dealt.{AreAtIndices}

-- what holds at each index still does where one is set
set_keeps : {X : Type 0} (P : ℕ → X → Type 0) (xs : List X) (i : ℕ) (y d : X) → ((j : ℕ) → P j (get_or xs j d)) → P i y → (j : ℕ) → P j (get_or (set xs i y) j d)
set_keeps P [] i y d h is j = h j
set_keeps P (x ∷ xs) zero y d h is zero = is
set_keeps P (x ∷ xs) zero y d h is (suc j) = h (suc j)
set_keeps P (x ∷ xs) (suc i) y d h is zero = h zero
set_keeps P (x ∷ xs) (suc i) y d h is (suc j) = set_keeps (λ n. P (suc n)) xs i y d (λ n. h (suc n)) is j

-- one slot is filled, or emptied
pub at_indices-set : {X : Type 0} (P : ℕ → X → Type 0) (slots : List (Option X)) (i : ℕ) (o : Option X) → AreAtIndices P slots → IfSome o (P i) → AreAtIndices P (set slots i o)
at_indices-set P slots i o h is = set_keeps (λ j s. IfSome s (P j)) slots i o None h is

-- what a slot has
pub at_indices-at : {X : Type 0} (P : ℕ → X → Type 0) (slots : List (Option X)) (i : ℕ) (o : Option X) → AreAtIndices P slots → i < length slots → o ≡ get_or slots i o → IfSome o (P i)
at_indices-at P slots i o h less is = subst (λ s. IfSome s (P i)) (sym (is ∙ get_or_default slots i o None less)) (h i)
