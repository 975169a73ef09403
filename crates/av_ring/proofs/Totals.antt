-- Sums and joined lists over views, of which one changes.
use Rattle.std.proofs.Common.{◌≡◌, ◌≢◌, ◌≤◌, ◌+◌, ℕ, zero, suc, List, [], ◌∷◌, ◌++◌, set, sym, refl, ap, ◌∙◌, subst, ⊎_elim, append_assoc, arith}
use mathlib.Core.Option.{some, some-injective, some-ne-none}
use lib.ListN.{get_elem?}
use Rattle.std.proofs.lemmas.List.{append-nil}
use Rattle.std.specs.List.{flat_map}
use Rattle.std.specs.List.Sorted.{IsPermutation}
use Rattle.std.proofs.lemmas.List.Sorted.{IsPermutation-refl, IsPermutation-append_comm, IsPermutation-append_left, IsPermutation-append_right, IsPermutation-trans}
use Rattle.crossbeam_queue.proofs.Lists.{at_set}
use Rattle.av_ring.specs.Ring.{total}

module _ {X : Type 0} where
  pub total_set : (f : X → ℕ) (xs : List X) (i : ℕ) (v w : X) → get_elem? xs i ≡ some v → total f (set xs i w) + f v ≡ total f xs + f w
  total_set f [] i v w e = absurd (some-ne-none v (sym e))
  total_set f (x ∷ xs) zero v w e = let s : f x ≡ f v = ap f (some-injective x v e) in omega arith
  total_set f (x ∷ xs) (suc i) v w e = let s = total_set f xs i v w e in omega arith

  pub total_snoc : (f : X → ℕ) (xs : List X) (x : X) → total f (xs ++ x ∷ []) ≡ total f xs + f x
  total_snoc f [] x = omega arith
  total_snoc f (y ∷ xs) x = let s = total_snoc f xs x in omega arith

  pub total_at : (f : X → ℕ) (xs : List X) (i : ℕ) (v : X) → get_elem? xs i ≡ some v → f v ≤ total f xs
  total_at f [] i v e = absurd (some-ne-none v (sym e))
  total_at f (x ∷ xs) zero v e = let s : f x ≡ f v = ap f (some-injective x v e) in omega arith
  total_at f (x ∷ xs) (suc i) v e = let s = total_at f xs i v e in omega arith

  pub total_two : (f : X → ℕ) (xs : List X) (i j : ℕ) (v u : X) → j ≢ i → get_elem? xs i ≡ some v → get_elem? xs j ≡ some u → f v + f u ≤ total f xs
  total_two f [] i j v u n e d = absurd (some-ne-none v (sym e))
  total_two f (x ∷ xs) zero zero v u n e d = absurd (n refl)
  total_two f (x ∷ xs) zero (suc j) v u n e d = let s : f x ≡ f v = ap f (some-injective x v e) in let t = total_at f xs j u d in omega arith
  total_two f (x ∷ xs) (suc i) zero v u n e d = let s : f x ≡ f u = ap f (some-injective x u d) in let t = total_at f xs i v e in omega arith
  total_two f (x ∷ xs) (suc i) (suc j) v u n e d = let s = total_two f xs i j v u (λ p. n (ap suc p)) e d in omega arith

  pub total_none : (f : X → ℕ) (xs : List X) → ((j : ℕ) (u : X) → get_elem? xs j ≡ some u → f u ≡ 0) → total f xs ≡ 0
  total_none f [] h = refl
  total_none f (x ∷ xs) h = let a = h 0 x refl in let b = total_none f xs (λ j u e. h (suc j) u e) in omega arith

  pub total_alone : (f : X → ℕ) (xs : List X) (i : ℕ) (v : X) → get_elem? xs i ≡ some v → ((j : ℕ) (u : X) → j ≢ i → get_elem? xs j ≡ some u → f u ≡ 0) → total f xs ≡ f v
  total_alone f [] i v e h = absurd (some-ne-none v (sym e))
  total_alone f (x ∷ xs) zero v e h = let s : f x ≡ f v = ap f (some-injective x v e) in let b = total_none f xs (λ j u d. h (suc j) u (λ p. omega arith) d) in omega arith
  total_alone f (x ∷ xs) (suc i) v e h = let a = h 0 x (λ p. omega arith) refl in let b = total_alone f xs i v e (λ j u n d. h (suc j) u (λ p. n (omega arith)) d) in omega arith

  -- what holds of the changed one and of all others holds of each
  pub each_set : (F : X → Type 0) (xs : List X) (i : ℕ) (w : X) → F w → ((j : ℕ) (u : X) → j ≢ i → get_elem? xs j ≡ some u → F u) → (j : ℕ) (u : X) → get_elem? (set xs i w) j ≡ some u → F u
  each_set F xs i w mine others j u e = ⊎_elim (λ (t : (j ≡ i) × (w ≡ u)). subst F t.1 mine) (λ (t : (j ≢ i) × (get_elem? xs j ≡ some u)). others j u t.0 t.1) (at_set xs i j w u e)

module _ {X A : Type 0} where
  pub flat_same : (f : X → List A) (xs : List X) (i : ℕ) (v w : X) → get_elem? xs i ≡ some v → f w ≡ f v → flat_map f (set xs i w) ≡ flat_map f xs
  flat_same f [] i v w e s = refl
  flat_same f (x ∷ xs) zero v w e s = ap (λ (l : List A). l ++ flat_map f xs) (s ∙ sym (ap f (some-injective x v e)))
  flat_same f (x ∷ xs) (suc i) v w e s = ap (λ (l : List A). f x ++ l) (flat_same f xs i v w e s)

  pub flat_grow : (f : X → List A) (xs : List X) (i : ℕ) (v w : X) (more : List A) → get_elem? xs i ≡ some v → f w ≡ f v ++ more → IsPermutation (flat_map f xs ++ more) (flat_map f (set xs i w))
  flat_grow f [] i v w more e s = absurd (some-ne-none v (sym e))
  flat_grow f (x ∷ xs) zero v w more e s =
      let is : f w ≡ f x ++ more = s ∙ ap (λ (l : List A). l ++ more) (sym (ap f (some-injective x v e))) in
      let P : List A → Type 0 = λ l. IsPermutation ((f x ++ flat_map f xs) ++ more) (l ++ flat_map f xs) in
      subst P (sym is) (rw (append_assoc (f x) (flat_map f xs) more, append_assoc (f x) more (flat_map f xs)) (IsPermutation-append_right (f x) _ _ (IsPermutation-append_comm (flat_map f xs) more)))
  flat_grow f (x ∷ xs) (suc i) v w more e s = rw (append_assoc (f x) (flat_map f xs) more) (IsPermutation-append_right (f x) _ _ (flat_grow f xs i v w more e s))

  -- one of the lists in front of the others
  pub flat_part : (f : X → List A) (xs : List X) (i : ℕ) (v : X) → get_elem? xs i ≡ some v → (others : List A) × IsPermutation (flat_map f xs) (f v ++ others)
  flat_part f [] i v e = absurd (some-ne-none v (sym e))
  flat_part f (x ∷ xs) zero v e = let P : List A → Type 0 = λ l. IsPermutation (f x ++ flat_map f xs) (l ++ flat_map f xs) in (flat_map f xs, subst P (ap f (some-injective x v e)) (IsPermutation-refl _))
  flat_part f (x ∷ xs) (suc i) v e = let r = flat_part f xs i v e in (
    f x ++ r.0,
    IsPermutation-trans _ _ _ (IsPermutation-append_right (f x) _ _ r.1)
        (rw (sym (append_assoc (f x) (f v) r.0), sym (append_assoc (f v) (f x) r.0)) (IsPermutation-append_left r.0 _ _ (IsPermutation-append_comm (f x) (f v)))),
  )

  pub flat_none : (f : X → List A) (xs : List X) → ((j : ℕ) (u : X) → get_elem? xs j ≡ some u → f u ≡ []) → flat_map f xs ≡ []
  flat_none f [] h = refl
  flat_none f (x ∷ xs) h = ap (λ (l : List A). l ++ flat_map f xs) (h 0 x refl) ∙ flat_none f xs (λ j u e. h (suc j) u e)

  pub flat_alone : (f : X → List A) (xs : List X) (i : ℕ) (v : X) → get_elem? xs i ≡ some v → ((j : ℕ) (u : X) → j ≢ i → get_elem? xs j ≡ some u → f u ≡ []) → flat_map f xs ≡ f v
  flat_alone f [] i v e h = absurd (some-ne-none v (sym e))
  flat_alone f (x ∷ xs) zero v e h = ap (λ (l : List A). f x ++ l) (flat_none f xs (λ j u d. h (suc j) u (λ p. omega arith) d)) ∙ append-nil (f x) ∙ ap f (some-injective x v e)
  flat_alone f (x ∷ xs) (suc i) v e h = ap (λ (l : List A). l ++ flat_map f xs) (h 0 x (λ p. omega arith) refl) ∙ flat_alone f xs i v e (λ j u n d. h (suc j) u (λ p. n (omega arith)) d)

  -- a list is taken out whole
  pub flat_out : (f : X → List A) (xs : List X) (i : ℕ) (v w : X) → get_elem? xs i ≡ some v → f w ≡ [] → IsPermutation (flat_map f (set xs i w) ++ f v) (flat_map f xs)
  flat_out f [] i v w e s = absurd (some-ne-none v (sym e))
  flat_out f (x ∷ xs) zero v w e s =
      let P : List A → Type 0 = λ l. IsPermutation ((l ++ flat_map f xs) ++ f v) (f x ++ flat_map f xs) in
      let Q : List A → Type 0 = λ l. IsPermutation (flat_map f xs ++ f v) (l ++ flat_map f xs) in
      subst P (sym s) (subst Q (sym (ap f (some-injective x v e))) (IsPermutation-append_comm (flat_map f xs) (f v)))
  flat_out f (x ∷ xs) (suc i) v w e s = rw (append_assoc (f x) (flat_map f (set xs i w)) (f v)) (IsPermutation-append_right (f x) _ _ (flat_out f xs i v w e s))
