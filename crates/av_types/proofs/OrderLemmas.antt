-- A stable sort gives the list in order, and no other.
use Rattle.std.proofs.Common.{◌≡◌, ℕ, ◌<◌, ◌≤◌, Bool, true, false, cond, not, ◌&&◌, List, [], ◌∷◌, length, get_or, filter, refl, sym, ap, subst, ◌∙◌, true≢false, arith, zero, suc}
use Rattle.std.specs.declared.cmp.Ordering.{Ordering}
use Rattle.std.specs.Ordering.{is_lt}
use Rattle.std.specs.Cmp.{IsStrictWeakOrder}
use Rattle.std.specs.List.Sorted.{IsPermutation, IsSortedBy, IsStableBy, ties}
use Rattle.std.proofs.lemmas.List.Sorted.{sorted_far, IsPermutation-refl, IsPermutation-trans, IsPermutation-cons, IsPermutation-insert}
use Rattle.av_types.specs.Order.{inserted, ordered, IsStableSort}

module _ {X : Type 0} (cmp : X → X → Ordering) (laws : IsStrictWeakOrder (λ x y. is_lt (cmp x y))) where
  abbrev below : X → X → Bool
  below x y = is_lt (cmp x y)

  -- none of xs is below x
  abbrev NoneBelow : X → List X → Type 0
  NoneBelow x [] = Unit {0}
  NoneBelow x (y ∷ ys) = (below y x ≡ false) × NoneBelow x ys

  abbrev Rises : List X → Type 0
  Rises [] = Unit {0}
  Rises (x ∷ xs) = NoneBelow x xs × Rises xs

  none_below : (x : X) (xs : List X) → ((j : ℕ) (d : X) → j < length xs → below (get_or xs j d) x ≡ false) → NoneBelow x xs
  none_below x [] f = tt
  none_below x (y ∷ ys) f = (f 0 y (omega arith), none_below x ys (λ j d h. f (suc j) d (omega arith)))

  rises : (xs : List X) → ((i j : ℕ) (d : X) → i ≤ j → j < length xs → below (get_or xs j d) (get_or xs i d) ≡ false) → Rises xs
  rises [] f = tt
  rises (x ∷ xs) f = (none_below x xs (λ j d h. f 0 (suc j) d (omega arith) (omega arith)), rises xs (λ i j d a b. f (suc i) (suc j) d (omega arith) (omega arith)))

  not_below_itself : (x : X) → below x x ≡ false
  not_below_itself x = by (below x x) refl where
    by : (b : Bool) → below x x ≡ b → below x x ≡ false
    by true h = laws.one_way x x h
    by false h = h

  tied : (x y : X) → below x y ≡ false → below y x ≡ false → ties below x y ≡ true
  tied x y h g = rw (h, g)

  left : (b c : Bool) → not b && not c ≡ true → b ≡ false
  left true c h = absurd (true≢false (sym h))
  left false c h = refl

  right : (b c : Bool) → not b && not c ≡ true → c ≡ false
  right true c h = absurd (true≢false (sym h))
  right false true h = absurd (true≢false (sym h))
  right false false h = refl

  -- an element that ties with one of zs is not below what none of zs is below
  not_below_least : (x y : X) (zs rest : List X) → NoneBelow y zs → x ∷ rest ≡ filter (ties below x) zs → below x y ≡ false
  not_below_least x y [] rest all h = cc
  not_below_least x y (z ∷ zs) rest all h = by (ties below x z) refl (λ g. not_below_least x y zs rest all.1 g) where
    by : (b : Bool) → ties below x z ≡ b → (x ∷ rest ≡ filter (ties below x) zs → below x y ≡ false) → below x y ≡ false
    by true e more = laws.chain x z y (left (below x z) (below z x) e) all.0
    by false e more = more (rw e at h)

  filter_own : (x : X) (xs : List X) → filter (ties below x) (x ∷ xs) ≡ x ∷ filter (ties below x) xs
  filter_own x xs = rw (tied x x (not_below_itself x) (not_below_itself x))

  tails : (z x : X) (xs ys : List X) → filter (ties below z) (x ∷ xs) ≡ filter (ties below z) (x ∷ ys) → filter (ties below z) xs ≡ filter (ties below z) ys
  tails z x xs ys h = by (ties below z x) refl where
    by : (b : Bool) → ties below z x ≡ b → filter (ties below z) xs ≡ filter (ties below z) ys
    by true e = let g = rw e at h in cc
    by false e = rw e at h

  -- two rising lists whose ties are in the same order are one
  same_rising : (xs ys : List X) → Rises xs → Rises ys → ((z : X) → filter (ties below z) xs ≡ filter (ties below z) ys) → xs ≡ ys
  same_rising [] [] r s h = refl
  same_rising [] (y ∷ ys) r s h = let e = filter_own y ys in let g = h y in cc
  same_rising (x ∷ xs) [] r s h = let e = filter_own x xs in let g = h x in cc
  same_rising (x ∷ xs) (y ∷ ys) r s h =
      let low = not_below_least x y (y ∷ ys) (filter (ties below x) xs) (not_below_itself y, s.0) (sym (filter_own x xs) ∙ h x) in
      let high = not_below_least y x (x ∷ xs) (filter (ties below y) ys) (not_below_itself x, r.0) (sym (filter_own y ys) ∙ sym (h y)) in
      let at : filter (ties below x) (y ∷ ys) ≡ y ∷ filter (ties below x) ys = rw (tied x y low high) in
      let same : x ≡ y = let g = h x in let e = filter_own x xs in cc in
      let rest = same_rising xs ys r.1 s.1 (λ z. tails z x xs ys (h z ∙ ap (λ w. filter (ties below z) (w ∷ ys)) (sym same))) in
      cc

  NoneBelow-inserted : (z x : X) (ys : List X) → below x z ≡ false → NoneBelow z ys → NoneBelow z (inserted cmp x ys)
  NoneBelow-inserted z x [] h all = (h, tt)
  NoneBelow-inserted z x (y ∷ ys) h all = by (below y x) refl (NoneBelow-inserted z x ys h all.1) where
    by : (b : Bool) → below y x ≡ b → NoneBelow z (inserted cmp x ys) → NoneBelow z (inserted cmp x (y ∷ ys))
    by true e more = rw e (all.0, more)
    by false e more = rw e (h, all)

  NoneBelow-chain : (x y : X) (zs : List X) → below y x ≡ false → NoneBelow y zs → NoneBelow x zs
  NoneBelow-chain x y [] h all = tt
  NoneBelow-chain x y (z ∷ zs) h all = (laws.chain z y x all.0 h, NoneBelow-chain x y zs h all.1)

  Rises-inserted : (x : X) (ys : List X) → Rises ys → Rises (inserted cmp x ys)
  Rises-inserted x [] r = (tt, tt)
  Rises-inserted x (y ∷ ys) r = by (below y x) refl (Rises-inserted x ys r.1) where
    by : (b : Bool) → below y x ≡ b → Rises (inserted cmp x ys) → Rises (inserted cmp x (y ∷ ys))
    by true e more = rw e (NoneBelow-inserted y x ys (laws.one_way y x e) r.0, more)
    by false e more = rw e ((e, NoneBelow-chain x y ys e r.0), r)

  Rises-ordered : (xs : List X) → Rises (ordered cmp xs)
  Rises-ordered [] = tt
  Rises-ordered (x ∷ xs) = Rises-inserted x (ordered cmp xs) (Rises-ordered xs)

  swapped : (z x y : X) (b c : Bool) (rest : List X) → ties below z x ≡ b → ties below z y ≡ c → below y x ≡ true
      → cond c (y ∷ cond b (x ∷ rest) rest) (cond b (x ∷ rest) rest) ≡ cond b (x ∷ cond c (y ∷ rest) rest) (cond c (y ∷ rest) rest)
  swapped z x y true true rest p q h = absurd (true≢false (sym h ∙ laws.chain y z x (right (below z y) (below y z) q) (left (below z x) (below x z) p)))
  swapped z x y true false rest p q h = refl
  swapped z x y false c rest p q h = refl

  filter-inserted : (z x : X) (ys : List X) → filter (ties below z) (inserted cmp x ys) ≡ filter (ties below z) (x ∷ ys)
  filter-inserted z x [] = refl
  filter-inserted z x (y ∷ ys) = by (below y x) refl (filter-inserted z x ys) where
    by : (b : Bool) → below y x ≡ b → filter (ties below z) (inserted cmp x ys) ≡ filter (ties below z) (x ∷ ys) → filter (ties below z) (inserted cmp x (y ∷ ys)) ≡ filter (ties below z) (x ∷ y ∷ ys)
    by true e more = rw (e, more) (swapped z x y (ties below z x) (ties below z y) (filter (ties below z) ys) refl refl e)
    by false e more = rw e refl

  filter-ordered : (z : X) (xs : List X) → filter (ties below z) (ordered cmp xs) ≡ filter (ties below z) xs
  filter-ordered z [] = refl
  filter-ordered z (x ∷ xs) = filter-inserted z x (ordered cmp xs) ∙ ap (λ l. cond (ties below z x) (x ∷ l) l) (filter-ordered z xs)

  -- what a stable sort leaves
  pub sorted_is_ordered : (xs ys : List X) → IsSortedBy (λ x y. is_lt (cmp x y)) ys → IsStableBy (λ x y. is_lt (cmp x y)) xs ys → ys ≡ ordered cmp xs
  sorted_is_ordered xs ys sorted stable =
      same_rising ys (ordered cmp xs) (rises ys (sorted_far below laws ys sorted)) (Rises-ordered xs) (λ z. stable z ∙ sym (filter-ordered z xs))

  rises_each : (xs : List X) → Rises xs → (k : ℕ) (d : X) → suc k < length xs → below (get_or xs (suc k) d) (get_or xs k d) ≡ false
  rises_each [] r k d h = absurd (omega arith)
  rises_each (x ∷ []) r k d h = absurd (omega arith)
  rises_each (x ∷ y ∷ ys) r zero d h = r.0.0
  rises_each (x ∷ y ∷ ys) r (suc k) d h = rises_each (y ∷ ys) r.1 k d (omega arith)

  inserted_elements : (x : X) (ys : List X) → IsPermutation (x ∷ ys) (inserted cmp x ys)
  inserted_elements x [] = IsPermutation-refl (x ∷ [])
  inserted_elements x (y ∷ ys) = by (below y x) (inserted_elements x ys) where
    by : (b : Bool) → IsPermutation (x ∷ ys) (inserted cmp x ys) → IsPermutation (x ∷ y ∷ ys) (cond b (y ∷ inserted cmp x ys) (x ∷ y ∷ ys))
    by true more = IsPermutation-trans (x ∷ y ∷ ys) (y ∷ x ∷ ys) (y ∷ inserted cmp x ys) (IsPermutation-insert (y ∷ ys) 1 x) (IsPermutation-cons y (x ∷ ys) (inserted cmp x ys) more)
    by false more = IsPermutation-refl (x ∷ y ∷ ys)

  ordered_elements : (xs : List X) → IsPermutation xs (ordered cmp xs)
  ordered_elements [] = IsPermutation-refl []
  ordered_elements (x ∷ xs) =
      IsPermutation-trans (x ∷ xs) (x ∷ ordered cmp xs) (inserted cmp x (ordered cmp xs)) (IsPermutation-cons x xs (ordered cmp xs) (ordered_elements xs)) (inserted_elements x (ordered cmp xs))

  -- the list in order is a stable sort
  pub stable_sort : (xs : List X) → IsStableSort cmp xs (ordered cmp xs)
  stable_sort xs = record { elements = ordered_elements xs; sorted = λ k d low high. subst (λ n. below (get_or (ordered cmp xs) n d) (get_or (ordered cmp xs) k d) ≡ false) (omega arith) (rises_each (ordered cmp xs) (Rises-ordered xs) k d (omega (arith, high))); stable = λ z. filter-ordered z xs }
