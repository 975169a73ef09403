-- Distinct numbers: of a job that is taken, and of one more job.
use Rattle.std.proofs.Common.{◌≡◌, ◌≢◌, ◌<◌, ◌+◌, ℕ, arith, nat_eq, false, List, [], ◌∷◌, ◌++◌, map, subst, sym, ◌∙◌, ⊎_elim, append_assoc, All}
use Rattle.std.specs.List.{AllByRecursion, IsDistinct}
use Rattle.std.proofs.lemmas.Bool.{eqb-false, ne_eqb}
use Rattle.std.proofs.lemmas.Bool.Decides.{eqb_tells}
use Rattle.std.proofs.lemmas.List.Elements.{All-from_recursion, recursion_from_All, All-push}
use Rattle.std.proofs.lemmas.List.Sorted.{IsPermutation-map}
use Rattle.std.proofs.lemmas.Map.Keys.{IsDistinct-IsPermutation}
use Rattle.av_ring.specs.Numbers.{HaveDistinctNumbers}
use Rattle.av_ring.specs.Ring.{IsPart}

flips : (a b : ℕ) → nat_eq a b ≡ nat_eq b a
flips a b =
    ⊎_elim
    (λ t. ⊎_elim (λ u. t.0 ∙ sym u.0) (λ u. absurd (u.1 (sym t.1))) (eqb_tells b a))
    (λ t. ⊎_elim (λ u. absurd (t.1 (sym u.1))) (λ u. t.0 ∙ sym u.0) (eqb_tells b a))
    (eqb_tells a b)

module _ {J : Type 0} (number : J → ℕ) where
  at_middle : (P : ℕ → Type 0) (xs : List J) (x : J) (rest : List J) → AllByRecursion P (map number (xs ++ x ∷ rest)) → P (number x)
  at_middle P [] x rest h = h.0
  at_middle P (y ∷ xs) x rest h = at_middle P xs x rest h.1

  differ_before : (xs : List J) (x : J) (rest : List J) → HaveDistinctNumbers number (xs ++ x ∷ rest) → AllByRecursion (λ y. number y ≢ number x) xs
  unfolding IsDistinct
  differ_before [] x rest d = tt
  differ_before (y ∷ xs) x rest d =
      (eqb-false (number y) (number x) (at_middle (λ n. nat_eq (number y) n ≡ false) xs x rest d.0), differ_before xs x rest d.1)

  -- where all numbers differ, a job that is taken has none of those taken before
  pub fresh : (whole taken : List J) (x : J) → HaveDistinctNumbers number whole → IsPart whole (taken ++ x ∷ []) → All (λ y. number y ≢ number x) taken
  fresh whole taken x distinct part =
      let now : HaveDistinctNumbers number ((taken ++ x ∷ []) ++ part.0) = IsDistinct-IsPermutation nat_eq flips _ _ (IsPermutation-map number _ _ part.1) distinct in
      All-from_recursion (λ y. number y ≢ number x) taken
      (differ_before taken x part.0 (subst (HaveDistinctNumbers number) (append_assoc taken (x ∷ []) part.0) now))

  at_end : (P : ℕ → Type 0) (xs : List J) (x : J) → AllByRecursion P (map number xs) → P (number x) → AllByRecursion P (map number (xs ++ x ∷ []))
  at_end P [] x h p = (p, tt)
  at_end P (y ∷ xs) x h p = (h.0, at_end P xs x h.1 p)

  one_more : (xs : List J) (x : J) → HaveDistinctNumbers number xs → AllByRecursion (λ y. number y ≢ number x) xs → HaveDistinctNumbers number (xs ++ x ∷ [])
  unfolding IsDistinct
  one_more [] x d h = (tt, tt)
  one_more (y ∷ xs) x d h = (at_end (λ n. nat_eq (number y) n ≡ false) xs x d.0 (ne_eqb (number y) (number x) h.0), one_more xs x d.1 h.1)

  -- distinct numbers stay so with a job more that has none of them
  pub distinct_push : (xs : List J) (x : J) → HaveDistinctNumbers number xs → All (λ y. number y ≢ number x) xs → HaveDistinctNumbers number (xs ++ x ∷ [])
  distinct_push xs x d h = one_more xs x d (recursion_from_All (λ y. number y ≢ number x) xs h)

-- three numbers
pub distinct_three : (a b c : ℕ) → a ≢ b → a ≢ c → b ≢ c → HaveDistinctNumbers (λ n. n) (a ∷ b ∷ c ∷ [])
unfolding IsDistinct
distinct_three a b c ab ac bc = ((ne_eqb a b ab, (ne_eqb a c ac, tt)), ((ne_eqb b c bc, tt), (tt, tt)))

-- numbers below n that differ, and n
pub below_none : HaveDistinctNumbers (λ n. n) [] × All (λ m. m < 0) []
unfolding IsDistinct
below_none = (tt, λ k d inside. absurd (omega arith))

pub below_more : (xs : List ℕ) (n : ℕ) → HaveDistinctNumbers (λ n. n) xs × All (λ m. m < n) xs → HaveDistinctNumbers (λ n. n) (xs ++ n ∷ []) × All (λ m. m < n + 1) (xs ++ n ∷ [])
below_more xs n h = (
  distinct_push (λ n. n) xs n h.0 (λ k d inside e. let below = h.1 k d inside in omega arith),
  All-push (λ m. m < n + 1) xs n (λ k d inside. let below = h.1 k d inside in omega arith) (omega arith),
)
