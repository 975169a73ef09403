-- A list that is written index by index.
use Rattle.std.proofs.Common.{◌≡◌, ◌≢◌, ℕ, ◌+◌, ◌<◌, List, length, set, get_or, get_or-set_other, get_or-set_same, below_more, arith, ◌∙◌}

-- one index more has what it is to have
pub set_more : (ns : List ℕ) (f : ℕ → ℕ) (i v : ℕ) → i < length ns → ((k : ℕ) → k < i → get_or ns k 0 ≡ f k) → v ≡ f i → (k : ℕ) → k < i + 1 → get_or (set ns i v) k 0 ≡ f k
set_more ns f i v less before is =
    below_more (λ k. get_or (set ns i v) k 0 ≡ f k) i
    (λ k h. let other : k ≢ i = omega arith in get_or-set_other ns i k v 0 other ∙ before k h)
    (get_or-set_same ns i v 0 less ∙ is)
