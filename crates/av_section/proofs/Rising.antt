-- Numbers in order, each once.
use Rattle.std.proofs.Common.{◌≡◌, ◌≢◌, ℕ, ◌<◌, ◌≤◌, ◌+◌, nat_eq, Bool, true, false, List, [], ◌∷◌, length, get_or, All, AllPairs, Contains, refl, sym, ap, ◌∙◌, subst, arith, inl, inr, Result, Ok, Err}
use Rattle.std.specs.List.{dedup}
use Rattle.std.specs.List.Sorted.{IsBinarySearchResult, IsPermutation, IsSorted, IsStrictlyIncreasing}
use Rattle.std.specs.Ordering.{nat_cmp}
use Rattle.std.specs.Result.{IsOk}
use Rattle.std.proofs.lemmas.Bool.{cases_lt, ne_eqb}
use Rattle.std.proofs.lemmas.Cmp.{nat_eq_equiv}
use Rattle.std.proofs.lemmas.List.{get_or_default}
use Rattle.std.proofs.lemmas.List.Elements.{All-contains, Contains-get_or}
use Rattle.std.proofs.lemmas.List.Kept.{AllPairs-from_increasing, Contains-dedup_nat, Contains-from_dedup}
use Rattle.std.proofs.lemmas.List.Sorted.{Contains-permutation, IsPermutation-sym, length_permutation, searched}
use Rattle.std.proofs.lemmas.Map.Keys.{IsDistinct-IsPermutation, IsDistinct-from_apart, IsStrictlyIncreasing-dedup}
use Rattle.std.proofs.lemmas.Map.Made.{AllPairs-from_IsDistinct}
use Rattle.std.proofs.lemmas.Bool.Decides.{Decides-eqb}
use Rattle.av_section.specs.Distinct.{AreEachOnce, AreOwnRanks, AreRanks, IsRisingOf}

-- ---- what is left of a list where numbers beside each other are taken once

from_short : (k : ℕ) (xs : List ℕ) → length (dedup nat_eq (k ∷ xs)) ≤ length xs + 1
from_short k [] = omega arith
from_short k (x ∷ xs) = by (nat_eq x k) refl (from_short k xs) (from_short x xs) where
  by : (b : Bool) → nat_eq x k ≡ b → length (dedup nat_eq (k ∷ xs)) ≤ length xs + 1 → length (dedup nat_eq (x ∷ xs)) ≤ length xs + 1 → length (dedup nat_eq (k ∷ x ∷ xs)) ≤ length (x ∷ xs) + 1
  by true e same next = rw e (omega (arith, same))
  by false e same next = rw e (omega (arith, next))

from_same : (k : ℕ) (xs : List ℕ) → length (dedup nat_eq (k ∷ xs)) ≡ length xs + 1 → dedup nat_eq (k ∷ xs) ≡ k ∷ xs
from_same k [] h = refl
from_same k (x ∷ xs) h = by (nat_eq x k) refl h (from_same x xs) where
  by : (b : Bool) → nat_eq x k ≡ b → length (dedup nat_eq (k ∷ x ∷ xs)) ≡ length (x ∷ xs) + 1 → (length (dedup nat_eq (x ∷ xs)) ≡ length xs + 1 → dedup nat_eq (x ∷ xs) ≡ x ∷ xs) → dedup nat_eq (k ∷ x ∷ xs) ≡ k ∷ x ∷ xs
  by true e g next = let low : length (dedup nat_eq (k ∷ xs)) ≡ length (x ∷ xs) + 1 = rw e at g in absurd (omega (arith, low, from_short k xs))
  by false e g next = let more : length (k ∷ dedup nat_eq (x ∷ xs)) ≡ length (x ∷ xs) + 1 = rw e at g in rw e (ap (λ l. k ∷ l) (next (omega (arith, more))))

dedup_short : (xs : List ℕ) → length (dedup nat_eq xs) ≤ length xs
dedup_short [] = omega arith
dedup_short (x ∷ xs) = omega (arith, from_short x xs)

dedup_same : (xs : List ℕ) → length (dedup nat_eq xs) ≡ length xs → dedup nat_eq xs ≡ xs
dedup_same [] h = refl
dedup_same (x ∷ xs) h = from_same x xs (omega (arith, h))

-- ---- the numbers of a list in order, each once

rising_apart : (xs : List ℕ) → IsStrictlyIncreasing xs → AllPairs (λ x y. x ≢ y) xs
rising_apart xs h i j d lt low e = let less = AllPairs-from_increasing xs h i j d lt low in absurd (omega (arith, less, e))

moved_apart : (numbers sorted : List ℕ) → IsPermutation numbers sorted → IsStrictlyIncreasing sorted → AllPairs (λ x y. x ≢ y) numbers
moved_apart numbers sorted moved h =
    let apart = IsDistinct-from_apart nat_eq sorted (λ i j d lt low. ne_eqb (get_or sorted i d) (get_or sorted j d) (rising_apart sorted h i j d lt low)) in
    AllPairs-from_IsDistinct Decides-eqb numbers (IsDistinct-IsPermutation nat_eq nat_eq_equiv.symm sorted numbers (IsPermutation-sym numbers sorted moved) apart)

pub rising_of : (numbers sorted rising : List ℕ) → IsPermutation numbers sorted → IsSorted nat_cmp sorted → rising ≡ dedup nat_eq sorted → IsRisingOf numbers rising
rising_of numbers sorted rising moved order is =
    let long = length_permutation numbers sorted moved in
    record {
      rises = rw is (IsStrictlyIncreasing-dedup sorted order);
      there = λ k d low. rw is (Contains-dedup_nat sorted (get_or numbers k d) (Contains-permutation numbers sorted (get_or numbers k d) moved (Contains-get_or numbers k d low)));
      short = omega (arith, ap length is, dedup_short sorted, long);
      among = rw is (λ k d low. Contains-permutation sorted numbers (get_or (dedup nat_eq sorted) k d) (IsPermutation-sym numbers sorted moved) (Contains-from_dedup nat_eq sorted (get_or (dedup nat_eq sorted) k d) (Contains-get_or (dedup nat_eq sorted) k d low)));
      apart = λ e.
          let same : dedup nat_eq sorted ≡ sorted = dedup_same sorted (sym (ap length is) ∙ e ∙ sym long) in
          moved_apart numbers sorted moved (subst IsStrictlyIncreasing same (IsStrictlyIncreasing-dedup sorted order));
    }

-- as many as the numbers: none is there twice
pub once_itself : (numbers rising : List ℕ) → IsRisingOf numbers rising → All (λ x. x < 65536) numbers → length rising ≡ length numbers → AreEachOnce numbers numbers
once_itself numbers rising r small e = record { distinct = r.apart e; small = small; there = Contains-get_or numbers; short = omega arith; same = λ q. refl }

pub own_are_ranks : (numbers ranks : List ℕ) → AreOwnRanks (length numbers) ranks → AreRanks numbers numbers ranks
own_are_ranks numbers ranks o = record {
  count = o.many;
  below = λ k d low. (let within : k < length numbers = omega (arith, low, o.many) in omega (arith, within, get_or_default ranks k d 0 low, o.own k within));
  numbers_are = λ j low. ap (λ i. get_or numbers i 0) (o.own j low);
}

-- or fewer
pub once_rising : (numbers rising : List ℕ) → IsRisingOf numbers rising → All (λ x. x < 65536) numbers → length rising ≢ length numbers → AreEachOnce numbers rising
once_rising numbers rising r small ne = record { distinct = rising_apart rising r.rises; small = λ k d low. All-contains (λ x. x < 65536) numbers (get_or rising k d) small (r.among k d low); there = r.there; short = r.short; same = λ q. absurd (ne q) }

-- ---- the search for one

not_falling : (xs : List ℕ) → IsStrictlyIncreasing xs → (i j : ℕ) → i ≤ j → j < length xs → get_or xs i 0 ≤ get_or xs j 0
not_falling xs h i j le low = elim (cases_lt i j) [
  | inl lt ↦ (let less = AllPairs-from_increasing xs h i j 0 lt low in omega (arith, less))
  | inr ge ↦ (let same : i ≡ j = omega (arith, le, ge) in omega (arith, ap (λ k. get_or xs k 0) same))
]

-- a number that is there is found
pub is_found : (xs : List ℕ) (x : ℕ) (r : Result ℕ ℕ) → IsStrictlyIncreasing xs → Contains xs x → IsBinarySearchResult (λ y. nat_cmp y x) xs r → IsOk r
is_found xs x (Ok i) h c s = refl
is_found xs x (Err i) h c s =
    let far = searched xs x (Err i) s (not_falling xs h) in
    let at : get_or xs c.0 0 ≡ x = get_or_default xs c.0 0 x c.1 ∙ c.2 in
    elim (cases_lt c.0 i) [
      | inl lt ↦ (let less = far.1 c.0 lt in absurd (omega (arith, less, at)))
      | inr ge ↦ (let more = far.2 c.0 ge c.1 in absurd (omega (arith, more, at)))
    ]
