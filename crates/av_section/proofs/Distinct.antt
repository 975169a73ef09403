-- Lists of numbers in which none is twice.
use Rattle.std.proofs.Common.{◌≡◌, ◌≢◌, ℕ, zero, suc, ◌<◌, ◌≤◌, ◌==◌, Bool, true, false, not, List, [], ◌∷◌, ◌++◌, length, get_or, filter, All, AllPairs, Contains, refl, sym, ap, ◌∙◌, inl, inr, arith, true≢false, length-append}
use Rattle.std.proofs.lemmas.Bool.{cases_lt, eq-eqb, eqb-true, ne_eqb}
use Rattle.std.proofs.lemmas.List.{get_or_append_left, get_or_default}
use Rattle.std.proofs.lemmas.List.Elements.{All-filter, filter_passes, All-tail, All-head}
use Rattle.std.proofs.lemmas.List.Kept.{AllPairs-filter}
use Rattle.std.proofs.Math.Seq.{get_or-append_seam}

abbrev pub Distinct : List ℕ → Type 0
Distinct xs = AllPairs (λ x y. x ≢ y) xs

Distinct-tail : (x : ℕ) (xs : List ℕ) → Distinct (x ∷ xs) → Distinct xs
Distinct-tail x xs h i j d lt low = h (suc i) (suc j) d (omega arith) (omega arith)

filter_all : (n : ℕ) (xs : List ℕ) → All (λ y. y ≢ n) xs → filter (λ x. not (x == n)) xs ≡ xs
filter_all n [] h = refl
filter_all n (x ∷ xs) h = rw (ne_eqb x n (All-head (λ y. y ≢ n) x xs h)) (ap (λ l. x ∷ l) (filter_all n xs (All-tail (λ y. y ≢ n) x xs h)))

-- at most one of them equals n
at_most_one : (n : ℕ) (xs : List ℕ) → Distinct xs → length xs ≤ suc (length (filter (λ x. not (x == n)) xs))
at_most_one n [] h = omega arith
at_most_one n (x ∷ xs) h = by (x == n) refl (at_most_one n xs (Distinct-tail x xs h)) where
  by : (b : Bool) → x == n ≡ b → length xs ≤ suc (length (filter (λ y. not (y == n)) xs)) → length (x ∷ xs) ≤ suc (length (filter (λ y. not (y == n)) (x ∷ xs)))
  by true e rest =
      let same : x ≡ n = eqb-true x n e in
      let others : All (λ y. y ≢ n) xs = λ k d low q. h 0 (suc k) d (omega arith) (omega arith) (same ∙ sym q) in
      rw (e, filter_all n xs others) (omega arith)
  by false e rest = rw e (omega arith)

-- so many different numbers are below n at most
pub few_below : (n : ℕ) (xs : List ℕ) → Distinct xs → All (λ x. x < n) xs → length xs ≤ n
few_below zero [] h low = omega arith
few_below zero (x ∷ xs) h low = let no : x < 0 = All-head (λ y. y < 0) x xs low in absurd (omega arith)
few_below (suc n) xs h low =
    let ys = filter (λ x. not (x == n)) xs in
    let passes = filter_passes (λ x. not (x == n)) xs in
    let all = All-filter (λ x. not (x == n)) (λ x. x < suc n) xs low in
    let lower : All (λ x. x < n) ys = λ k d within. below_next n (get_or ys k d) (all k d within) (passes k d within) in
    let few = few_below n ys (AllPairs-filter (λ x y. x ≢ y) (λ x. not (x == n)) xs h) lower in
    omega (arith, at_most_one n xs h, few)
  where
    below_next : (n x : ℕ) → x < suc n → not (x == n) ≡ true → x < n
    below_next n x low differs = elim (cases_lt x n) [
      | inl lt ↦ lt
      | inr ge ↦ (let e : x ≡ n = omega arith in absurd (true≢false (sym (rw (eq-eqb x n e) at differs))))
    ]

-- one that is not among them, at their end
pub Distinct-push : (xs : List ℕ) (n : ℕ) → Distinct xs → (Contains xs n → ⊥) → Distinct (xs ++ n ∷ [])
Distinct-push xs n h new i j d lt low = elim (cases_lt j (length xs)) [
  | inl within ↦ (let here : i < length xs = omega arith in rw (get_or_append_left xs (n ∷ []) d i here, get_or_append_left xs (n ∷ []) d j within) (h i j d lt within))
  | inr past ↦ (
      let last : j ≡ length xs = omega (arith, length-append xs (n ∷ [])) in
      let here : i < length xs = omega arith in
      λ q. new (i, here, get_or_default xs i n d here ∙ (sym (get_or_append_left xs (n ∷ []) d i here) ∙ q ∙ ap (λ k. get_or (xs ++ n ∷ []) k d) last ∙ get_or-append_seam xs n [] d)))
]
