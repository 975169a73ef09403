-- What a crash may leave.
use Rattle.std.proofs.Common.{◌≡◌, refl, ℕ, List, [], ◌∷◌, ◌++◌, take, zero, suc}
use Rattle.std.specs.List.{AllByRecursion}
use Rattle.av_exchange.specs.Steps.{AreSomeOf, none, kept, lost, Step, Synced, Holdings, after, after_all}

module _ {A : Type 0} where
  pub all_some : (xs : List A) → AreSomeOf xs xs
  all_some [] = none
  all_some (x ∷ xs) = kept x xs xs (all_some xs)

  pub none_some : (xs : List A) → AreSomeOf [] xs
  none_some [] = none
  none_some (x ∷ xs) = lost x [] xs (none_some xs)

  pub first_some : (n : ℕ) (xs : List A) → AreSomeOf (take n xs) xs
  first_some zero xs = none_some xs
  first_some (suc n) [] = none
  first_some (suc n) (x ∷ xs) = kept x _ xs (first_some n xs)

  pub some_all : (P : A → Type 0) (some all : List A) → AreSomeOf some all → AllByRecursion P all → AllByRecursion P some
  some_all P _ _ none are = are
  some_all P _ _ (kept x some all of) are = (are.0, some_all P some all of are.1)
  some_all P _ _ (lost x some all of) are = some_all P some all of are.1

-- one step took place or not
pub one_or_none : (s : Step) (left : List Step) (P : List Step → Type 0) → AreSomeOf left (s ∷ []) → P [] → P (s ∷ []) → P left
one_or_none s _ P (kept x _ _ none) p q = q
one_or_none s _ P (lost x _ _ none) p q = p

pub after_both : (h : Holdings) (a b : List Step) → after_all h (a ++ b) ≡ after_all (after_all h a) b
after_both h [] b = refl
after_both h (s ∷ a) b = after_both (after h s) a b

-- what stands behind a phase
pub after_phase : (h : Holdings) (a b : List Step) → after_all h (a ++ (Synced ∷ b)) ≡ after_all (after_all h a) b
after_phase h a b = after_both h a (Synced ∷ b)
