-- Lists that grow at their end.
use Rattle.std.proofs.Common.{inl, inr, ◌≡◌, ◌∙◌, ℕ, ◌+◌, ◌<◌, ◌≤◌, List, [], ◌∷◌, ◌++◌, length, map, get_or, take, Some, sym, ap, subst, arith, add-one}
use Rattle.std.specs.Prelude.{slice_get}
use Rattle.std.proofs.Math.ListN.{get_or-append}
use Rattle.std.proofs.Math.Nat.{eq-or-lt_of_le}
use Rattle.std.proofs.Math.Seq.{get_or-append_seam, take-suc}
use Rattle.std.proofs.lemmas.List.{map-append}
use Rattle.std.proofs.lemmas.List.FromFn.{map-range_with_len_more}
use Rattle.std.proofs.lemmas.Option.{slice_get_within, get_or_from_slice_get}
use Rattle.std.specs.List.{range_with_len}

-- what holds of each holds with one more
pub each_push : {A : Type 0} (d : A) (P : ℕ → A → Type 0) (xs : List A) (x : A) (n : ℕ) → length xs ≡ n → ((i : ℕ) → i < n → P i (get_or xs i d)) → P n x
    → (i : ℕ) → i < n + 1 → P i (get_or (xs ++ x ∷ []) i d)
each_push d P xs x n e old new i h =
    let low : i ≤ n = omega arith in
    elim (eq-or-lt_of_le low) [
      | inl same ↦ (let seam : get_or (xs ++ x ∷ []) n d ≡ x = ap (λ k. get_or (xs ++ x ∷ []) k d) (sym e) ∙ get_or-append_seam xs x [] d in
          subst (λ j. P j (get_or (xs ++ x ∷ []) j d)) (sym same) (subst (P n) (sym seam) new))
      | inr less ↦ (let within : i < length xs = omega (arith, e, less) in subst (P i) (sym (get_or-append xs (x ∷ []) d i within)) (old i less))
    ]

-- a function's values at 0, 1, ..
pub values_push : {A : Type 0} (f : ℕ → A) (xs ys : List A) (y : A) (n : ℕ) → ys ≡ xs ++ y ∷ [] → xs ≡ map f (range_with_len 0 n) → y ≡ f n → ys ≡ map f (range_with_len 0 (n + 1))
values_push f xs ys y n is e v = is ∙ ap (λ l. l ++ y ∷ []) e ∙ ap (λ v. map f (range_with_len 0 n) ++ v ∷ []) v ∙ sym (map-range_with_len_more f 0 n n (omega arith))

-- a function of the first elements
pub mapped_push : {A B : Type 0} (f : A → B) (xs : List A) (n : ℕ) (x : A) (old new : List B) (y : B) → slice_get xs n ≡ Some x → old ≡ map f (take n xs) → y ≡ f x → new ≡ old ++ y ∷ []
    → new ≡ map f (take (n + 1) xs)
mapped_push f xs n x old new y at e v is =
    let there : get_or xs n x ≡ x = get_or_from_slice_get xs n x x at in
    let step : take (n + 1) xs ≡ take n xs ++ x ∷ [] = ap (λ k. take k xs) (add-one n) ∙ take-suc xs n x (slice_get_within xs n x at) ∙ ap (λ z. take n xs ++ z ∷ []) there in
    is ∙ ap (λ l. l ++ y ∷ []) e ∙ ap (λ z. map f (take n xs) ++ z ∷ []) v ∙ sym (map-append f (take n xs) (x ∷ [])) ∙ ap (map f) (sym step)
