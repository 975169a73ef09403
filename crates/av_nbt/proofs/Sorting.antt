-- Sorted names rise exactly where no name stands twice.
use Rattle.std.proofs.Common.{◌≡◌, ℕ, ◌+◌, ◌-◌, ◌<◌, ◌≤◌, List, [], ◌∷◌, length, map, get_or, Bool, true, false, refl, sym, ap, ◌∙◌, subst, arith, inl, inr, Bor}
use Rattle.std.specs.Prelude.{IsTrue, ◌↔◌, if◌then◌else◌}
use Rattle.std.specs.List.{IsDistinct, AllByRecursion}
use Rattle.std.specs.List.Sorted.{IsPermutation, IsSorted}
use Rattle.std.specs.Cmp.Lexicographic.{slice_cmp}
use Rattle.std.specs.Ordering.{nat_cmp, eq_by_cmp, is_eq, is_lt, ordering_reverse}
use Rattle.std.specs.Str.{bytes_eq}
use Rattle.std.specs.declared.cmp.Ordering.{Ordering}
use Rattle.std.specs.declared.cmp.Ordering.TheVariants.{Less, Equal, Greater}
use Rattle.std.proofs.lemmas.Bool.{cases_lt}
use Rattle.std.proofs.lemmas.Cmp.{nat_list_cmp_total}
use Rattle.std.proofs.Math.ListN as ListN
use Rattle.std.proofs.lemmas.List.{get_or-map, length-map}
use Rattle.std.proofs.lemmas.List.Sorted.{IsPermutation-sym, IsPermutation-map}
use Rattle.std.proofs.lemmas.Map.Keys.{IsDistinct-from_sorted, IsDistinct-head, IsDistinct-tail, IsDistinct-cons, IsDistinct-IsPermutation, apart_from_distinct, sorted_from_all_adjacent}
use Rattle.std.proofs.lemmas.Map.Text.{is_eq-slice_cmp}
use Rattle.av_tags.specs.Nbt.{NamedTag}
use Rattle.av_nbt.specs.Order.{Rise}
use Rattle.av_nbt.specs.Reading.{has_name, are_distinct}

-- the order of names, and their equality by it
abbrev pub order : List ℕ → List ℕ → Ordering
order = slice_cmp nat_cmp

abbrev same : List ℕ → List ℕ → Bool
same = eq_by_cmp order

abbrev pub name_order : Bor (List ℕ) → Bor (List ℕ) → Ordering
name_order x y = slice_cmp nat_cmp x.now y.now

reversed_equal : (o : Ordering) → is_eq (ordering_reverse o) ≡ is_eq o
reversed_equal Less = refl
reversed_equal Equal = refl
reversed_equal Greater = refl

same_flips : (x y : List ℕ) → same x y ≡ same y x
same_flips x y = ap (λ o. is_eq o) (nat_list_cmp_total.antisymm x y) ∙ reversed_equal (order y x)

-- names by the definition of reading, and by std's
name_apart : (n : List ℕ) (ms : List NamedTag) → has_name n ms ≡ false → AllByRecursion (λ m. same n m ≡ false) (map (λ m. m.name) ms)
name_apart n [] e = tt
name_apart n (m ∷ ms) e =
    elim (bytes_eq n m.name) as (λ b. bytes_eq n m.name ≡ b → (if b then true else has_name n ms) ≡ false → AllByRecursion (λ k. same n k ≡ false) (map (λ x. x.name) (m ∷ ms))) [
      | true ↦ λ _ taken. cc
      | false ↦ λ other absent. (is_eq-slice_cmp n m.name ∙ other, name_apart n ms absent)
    ] refl e

name_absent : (n : List ℕ) (ms : List NamedTag) → AllByRecursion (λ m. same n m ≡ false) (map (λ m. m.name) ms) → has_name n ms ≡ false
name_absent n [] h = refl
name_absent n (m ∷ ms) (other, h) = let differ : bytes_eq n m.name ≡ false = sym (is_eq-slice_cmp n m.name) ∙ other in rw differ (name_absent n ms h)

distinct_names : (ms : List NamedTag) → are_distinct ms ≡ true → IsDistinct same (map (λ m. m.name) ms)
unfolding IsDistinct
distinct_names [] e = tt
distinct_names (m ∷ ms) e =
    elim (has_name m.name ms) as (λ b. has_name m.name ms ≡ b → (if b then false else are_distinct ms) ≡ true → IsDistinct same (map (λ x. x.name) (m ∷ ms))) [
      | true ↦ λ _ taken. cc
      | false ↦ λ absent others. IsDistinct-cons same m.name (map (λ x. x.name) ms) (name_apart m.name ms absent) (distinct_names ms others)
    ] refl e

names_distinct : (ms : List NamedTag) → IsDistinct same (map (λ m. m.name) ms) → are_distinct ms ≡ true
names_distinct [] h = refl
names_distinct (m ∷ ms) h =
    let absent = name_absent m.name ms (IsDistinct-head same m.name (map (λ x. x.name) ms) h) in
    rw absent (names_distinct ms (IsDistinct-tail same m.name (map (λ x. x.name) ms) h))

-- the names that references point to are as sorted as the references
sorted_values : (ys : List (Bor (List ℕ))) → IsSorted name_order ys → (k : ℕ) → k + 1 < length (map (λ b. b.now) ys) → is_lt (order (get_or (map (λ b. b.now) ys) (k + 1) []) (get_or (map (λ b. b.now) ys) k [])) ≡ false
sorted_values [] h k more = absurd (omega (arith, more))
sorted_values (y ∷ ys) h k more =
    let inside : k + 1 < length (y ∷ ys) = omega (arith, more, length-map {B = List ℕ} (y ∷ ys) (λ b. b.now)) in
    let first : k < length (y ∷ ys) = omega (arith, inside) in
    let at = get_or-map (λ b. b.now) (y ∷ ys) k y [] first in
    let next = get_or-map (λ b. b.now) (y ∷ ys) (k + 1) y [] inside in
    ap (λ n. is_lt (order n (get_or (map (λ b. b.now) (y ∷ ys)) k []))) next ∙ ap (λ n. is_lt (order (get_or (y ∷ ys) (k + 1) y).now n)) at ∙ h k y (omega arith) inside

-- two names in order that differ rise
rises : (x y : List ℕ) → same x y ≡ false → is_lt (order y x) ≡ false → order x y ≡ Less
rises x y apart sorted =
    elim (order x y) as (λ o. order x y ≡ o → is_eq o ≡ false → o ≡ Less) [
      | Less ↦ λ _ _. refl
      | Equal ↦ λ _ equal. cc
      | Greater ↦ λ is _. let back : order y x ≡ Less = nat_list_cmp_total.antisymm y x ∙ ap ordering_reverse is in let below : is_lt (order y x) ≡ true = ap (λ o. is_lt o) back in cc
    ] refl apart

not_true : IsTrue false → false ≡ true
not_true h = h

-- a loop over sorted names: one more pair of neighbours
abbrev pub nothing : Bor (List ℕ)
nothing = record { ref_ptr = (0, 0); now = [] }

value_at : (names : List (Bor (List ℕ))) (k : ℕ) → get_or (map (λ b. b.now) names) k [] ≡ (get_or names k nothing).now
value_at names k = ListN.get_or-map (λ b. b.now) names k nothing

pair_at : (names : List (Bor (List ℕ))) (i : ℕ) (r : Ordering) → r ≡ order (get_or names (i - 1) nothing).now (get_or names i nothing).now
    → order (get_or (map (λ b. b.now) names) (i - 1) []) (get_or (map (λ b. b.now) names) i []) ≡ r
pair_at names i r e = ap (λ n. order n (get_or (map (λ b. b.now) names) i [])) (value_at names (i - 1)) ∙ ap (λ n. order (get_or names (i - 1) nothing).now n) (value_at names i) ∙ sym e

is_less : (o : Ordering) → is_lt o ≡ true → o ≡ Less
is_less Less e = refl
is_less Equal e = cc
is_less Greater e = cc

abbrev pub RiseTo : List (List ℕ) → ℕ → Type 0
RiseTo zs i = (k : ℕ) → k + 1 < i → slice_cmp nat_cmp (get_or zs k []) (get_or zs (k + 1) []) ≡ Less

pub rise_more : (names : List (Bor (List ℕ))) (i : ℕ) (r : Ordering) → 1 ≤ i → r ≡ order (get_or names (i - 1) nothing).now (get_or names i nothing).now → is_lt r ≡ true
    → RiseTo (map (λ b. b.now) names) i → RiseTo (map (λ b. b.now) names) (i + 1)
rise_more names i r some compared less before k more =
    let zs = map (λ b. b.now) names in
    elim (cases_lt (k + 1) i) [
      | inl inside ↦ before k inside
      | inr here ↦
          (let last : i - 1 ≡ k = omega arith in
          let next : i ≡ k + 1 = omega arith in
          ap (λ n. order (get_or zs n []) (get_or zs (k + 1) [])) (sym last) ∙ ap (λ n. order (get_or zs (i - 1) []) (get_or zs n [])) (sym next) ∙ pair_at names i r compared ∙ is_less r less)
    ]

pub falls : (names : List (Bor (List ℕ))) (i : ℕ) (r : Ordering) → 1 ≤ i → i < length names → r ≡ order (get_or names (i - 1) nothing).now (get_or names i nothing).now → is_lt r ≡ false
    → Rise (map (λ b. b.now) names) → IsTrue false
falls names i r some inside compared less rising =
    let zs = map (λ b. b.now) names in
    let next : (i - 1) + 1 ≡ i = omega arith in
    let within : (i - 1) + 1 < length zs = omega (arith, length-map {B = List ℕ} names (λ b. b.now)) in
    let up : order (get_or zs (i - 1) []) (get_or zs i []) ≡ Less = ap (λ n. order (get_or zs (i - 1) []) (get_or zs n [])) (sym next) ∙ rising (i - 1) within in
    let below : r ≡ Less = sym (pair_at names i r compared) ∙ up in
    let true_less : is_lt r ≡ true = ap (λ o. is_lt o) below in
    sym less ∙ true_less

-- What the test of sorted names answers.
pub sorted_answer : (xs ys : List (Bor (List ℕ))) (ms : List NamedTag) (b : Bool) → map (λ r. r.now) xs ≡ map (λ m. m.name) ms → IsPermutation xs ys → IsSorted name_order ys → (IsTrue b ↔ Rise (map (λ r. r.now) ys)) → b ≡ are_distinct ms
sorted_answer xs ys ms true names moved sorted answer =
    let zs = map (λ r. r.now) ys in
    let rising = sorted_from_all_adjacent nat_list_cmp_total zs [] (answer.0 refl) in
    let distinct = IsDistinct-IsPermutation same same_flips zs (map (λ r. r.now) xs) (IsPermutation-map (λ r. r.now) ys xs (IsPermutation-sym xs ys moved)) (IsDistinct-from_sorted order zs rising) in
    sym (names_distinct ms (subst (λ ns. IsDistinct same ns) names distinct))
sorted_answer xs ys ms false names moved sorted answer =
    let zs = map (λ r. r.now) ys in
    elim (are_distinct ms) as (λ d. are_distinct ms ≡ d → false ≡ d) [
      | false ↦ λ _. refl
      | true ↦ λ is.
          let before = subst (λ ns. IsDistinct same ns) (sym names) (distinct_names ms is) in
          let distinct = IsDistinct-IsPermutation same same_flips (map (λ r. r.now) xs) zs (IsPermutation-map (λ r. r.now) xs ys moved) before in
          not_true (answer.1 (λ k more. rises (get_or zs k []) (get_or zs (k + 1) []) (apart_from_distinct same zs k (k + 1) [] distinct (omega arith) more) (sorted_values ys sorted k more)))
    ] refl
