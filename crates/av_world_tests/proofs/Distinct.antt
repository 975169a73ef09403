-- Loops that look for an equal one.
use Rattle.std.proofs.Common.{◌≡◌, ◌≢◌, ℕ, ◌+◌, ◌<◌, ◌⊎◌, inl, inr, Bool, false, List, length, get_or, ap, ◌∙◌, arith}
use Rattle.std.proofs.lemmas.Bool.{cases_eq}
use Rattle.std.proofs.lemmas.List.{get_or_default}

-- what is false of each before i and of the one at i is false of each before i + 1
pub none_more : {X : Type 0} (f : X → Bool) (xs : List X) (i : ℕ) (x : X) → i < length xs → ((j : ℕ) (d : X) → j < i → f (get_or xs j d) ≡ false) → f (get_or xs i x) ≡ false → (j : ℕ) (d : X) → j < i + 1 → f (get_or xs j d) ≡ false
none_more f xs i x below before other j d l = by (cases_eq j i) where
  by : (j ≡ i) ⊎ (j ≢ i) → f (get_or xs j d) ≡ false
  by (inl e) = ap (λ k. f (get_or xs k d)) e ∙ (ap f (get_or_default xs i d x below) ∙ other)
  by (inr n) = before j d (omega (arith, n))
