-- The numbers of a list, each once.
-- Working definitions. No public clause cites them.
use Rattle.std.specs.Prelude.{◌≡◌, ◌≢◌, ℕ, ◌<◌, ◌≤◌, nat_eq, List, [], ◌∷◌, ◌++◌, fold, length, if◌then◌else◌, All, AllPairs, Contains, slice_index}
use Rattle.std.specs.List.{list_any}
use Rattle.std.specs.List.Sorted.{IsStrictlyIncreasing}

-- the numbers after one more: they stay where it is among them, and else it goes last
abbrev pub with_number : List ℕ → ℕ → List ℕ
with_number once n = if list_any (nat_eq n) once then once else once ++ n ∷ []

-- the numbers after each of some more in turn
abbrev pub with_numbers : List ℕ → List ℕ → List ℕ
with_numbers once more = fold with_number once more

-- none of them is there twice, all of the list are there, and where they are as many they are the list
pub record AreEachOnce (numbers once : List ℕ) : Type 0 where
  pub distinct : AllPairs (λ x y. x ≢ y) once
  pub small : All (λ x. x < 65536) once
  pub there : All (Contains once) numbers
  pub short : length once ≤ length numbers
  pub same : length once ≡ length numbers → once ≡ numbers

-- the rank of each of the numbers in the palette: how many stand before it there
pub record AreRanks (palette numbers ranks : List ℕ) : Type 0 where
  pub count : length ranks ≡ length numbers
  pub below : All (λ rank. rank < length palette) ranks
  pub numbers_are : (j : ℕ) → j < length numbers → slice_index palette (slice_index ranks j) ≡ slice_index numbers j

-- so many ranks, each its own index
pub record AreOwnRanks (count : ℕ) (ranks : List ℕ) : Type 0 where
  pub many : length ranks ≡ count
  pub own : (j : ℕ) → j < count → slice_index ranks j ≡ j

-- they rise, they are those of the list, and where they are as many none of it is there twice
pub record IsRisingOf (numbers rising : List ℕ) : Type 0 where
  pub rises : IsStrictlyIncreasing rising
  pub there : All (Contains rising) numbers
  pub among : All (Contains numbers) rising
  pub short : length rising ≤ length numbers
  pub apart : length rising ≡ length numbers → AllPairs (λ x y. x ≢ y) numbers
