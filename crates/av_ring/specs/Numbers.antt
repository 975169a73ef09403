-- Jobs by their numbers.
use Rattle.std.specs.Prelude.{ℕ, nat_eq, List, map}
use Rattle.std.specs.List.{IsDistinct}

-- no two of these jobs have the same number
abbrev pub HaveDistinctNumbers : {J : Type 0} → (J → ℕ) → List J → Type 0
HaveDistinctNumbers number jobs = IsDistinct nat_eq (map number jobs)
