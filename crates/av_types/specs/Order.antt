-- Lists in an order, where what ties stays in the order that it had.
use Rattle.std.specs.Prelude.{List, [], ◌∷◌, if◌then◌else◌}
use Rattle.std.specs.declared.cmp.Ordering.{Ordering}
use Rattle.std.specs.Ordering.{is_lt}
use Rattle.std.specs.List.Sorted.{IsSorted, IsStable, IsPermutation}

-- x before the first element that is not below it
abbrev pub inserted : {X : Type 0} → (X → X → Ordering) → X → List X → List X
inserted cmp x [] = x ∷ []
inserted cmp x (y ∷ ys) = if is_lt (cmp y x) then y ∷ inserted cmp x ys else x ∷ y ∷ ys

-- the elements in the order of cmp
abbrev pub ordered : {X : Type 0} → (X → X → Ordering) → List X → List X
ordered cmp [] = []
ordered cmp (x ∷ xs) = inserted cmp x (ordered cmp xs)

-- the elements of xs in the order of cmp, and what ties in the order of xs
pub record IsStableSort {X : Type 0} (cmp : X → X → Ordering) (xs ys : List X) : Type 0 where
  pub elements : IsPermutation xs ys
  pub sorted : IsSorted cmp ys
  pub stable : IsStable cmp xs ys
