-- Properties in the order of their keys: what a stable sort by the keys leaves.
use Rattle.std.proofs.Common.{◌≡◌, ℕ, List, [], ◌∷◌, map, Bool, true, false, ◌&&◌, cond, refl, ap, ◌∙◌, sym, nat_cmp}
use Rattle.std.specs.List.Sorted.{IsStableBy, IsSortedBy}
use Rattle.std.specs.declared.cmp.Ordering.{Ordering}
use Rattle.std.specs.Cmp.{IsStrictWeakOrder}
use Rattle.std.specs.Cmp.Lexicographic.{slice_cmp}
use Rattle.std.specs.Ordering.{is_lt}
use Rattle.std.proofs.lemmas.Bool.{and_from, and_parts, false≢true}
use Rattle.std.proofs.lemmas.Cmp.{nat_list_cmp_total}
use Rattle.std.proofs.lemmas.List.Sorted.{ranks_by}
use Rattle.av_types.specs.Order.{inserted, ordered}
use Rattle.av_types.proofs.OrderLemmas.{sorted_is_ordered}
use Rattle.av_state.specs.BlockState.{Property, insert_property, in_order, starts_at_or_above, is_in_order, starts_above, keys_rise}

abbrev pub key_below : Property → Property → Bool
key_below p q = is_lt (slice_cmp nat_cmp p.key q.key)

pub key_below-weak : {X : Type 0} (v : X → Property) → IsStrictWeakOrder (λ x y. key_below (v x) (v y))
key_below-weak v = ranks_by nat_list_cmp_total (λ x. (v x).key)

module _ {X : Type 0} (v : X → Property) where
  abbrev by_key : X → X → Ordering
  by_key x y = slice_cmp nat_cmp (v x).key (v y).key

  abbrev below : X → X → Bool
  below x y = key_below (v x) (v y)

  insert_property-views : (x : X) (ys : List X) → insert_property (v x) (map v ys) ≡ map v (inserted by_key x ys)
  insert_property-views x [] = refl
  insert_property-views x (y ∷ ys) = elim (below y x) as (λ b. cond b (v y ∷ insert_property (v x) (map v ys)) (v x ∷ v y ∷ map v ys) ≡ map v (cond b (y ∷ inserted by_key x ys) (x ∷ y ∷ ys)))
      [ true ↦ ap (λ l. v y ∷ l) (insert_property-views x ys) | false ↦ refl ]

  in_order-views : (xs : List X) → in_order (map v xs) ≡ map v (ordered by_key xs)
  in_order-views [] = refl
  in_order-views (x ∷ xs) = ap (insert_property (v x)) (in_order-views xs) ∙ insert_property-views x (ordered by_key xs)

  pub in_order-sorted : (xs ys : List X) → IsSortedBy below ys → IsStableBy below xs ys → map v ys ≡ in_order (map v xs)
  in_order-sorted xs ys up stable = ap (map v) (sorted_is_ordered by_key (key_below-weak v) xs ys up stable) ∙ sym (in_order-views xs)

starts_insert : (k : List ℕ) (p : Property) (qs : List Property) → is_lt (slice_cmp nat_cmp p.key k) ≡ false → starts_at_or_above k qs ≡ true → starts_at_or_above k (insert_property p qs) ≡ true
starts_insert k p [] e h = ap (λ b. cond b false true) e
starts_insert k p (q ∷ qs) e h = elim (key_below q p) as (λ b. starts_at_or_above k (cond b (q ∷ insert_property p qs) (p ∷ q ∷ qs)) ≡ true) [ true ↦ h | false ↦ ap (λ b. cond b false true) e ]

order_step : (b : Bool) (p q : Property) (qs : List Property) → key_below q p ≡ b → (starts_at_or_above q.key qs && is_in_order qs) ≡ true → is_in_order (insert_property p qs) ≡ true → is_in_order (cond b (q ∷ insert_property p qs) (p ∷ q ∷ qs)) ≡ true
order_step true p q qs e h more =
    and_from _ _ (starts_insert q.key p qs ((key_below-weak (λ (x : Property). x)).one_way q p e) (and_parts (starts_at_or_above q.key qs) (is_in_order qs) h).0) more
order_step false p q qs e h more = and_from _ _ (ap (λ b. cond b false true) e) h

insert-in_order : (p : Property) (qs : List Property) → is_in_order qs ≡ true → is_in_order (insert_property p qs) ≡ true
insert-in_order p [] h = refl
insert-in_order p (q ∷ qs) h = order_step (key_below q p) p q qs refl h (insert-in_order p qs (and_parts (starts_at_or_above q.key qs) (is_in_order qs) h).1)

-- properties in order are in order
pub in_order-is : (ps : List Property) → is_in_order (in_order ps) ≡ true
in_order-is [] = refl
in_order-is (p ∷ ps) = insert-in_order p (in_order ps) (in_order-is ps)

keep_step : (p : Property) (qs : List Property) → starts_at_or_above p.key qs ≡ true → insert_property p qs ≡ p ∷ qs
keep_step p [] h = refl
keep_step p (q ∷ qs) h = keep_cases (key_below q p) h
  where
    keep_cases : (b : Bool) → cond b false true ≡ true → cond b (q ∷ insert_property p qs) (p ∷ q ∷ qs) ≡ p ∷ q ∷ qs
    keep_cases true h = absurd (false≢true h)
    keep_cases false h = refl

-- and stay as they are when they are read again
pub in_order-again : (ps : List Property) → is_in_order ps ≡ true → in_order ps ≡ ps
in_order-again [] h = refl
in_order-again (p ∷ ps) h =
    let (first, more) = and_parts (starts_at_or_above p.key ps) (is_in_order ps) h in
    ap (insert_property p) (in_order-again ps more) ∙ keep_step p ps first

above_step : (k : List ℕ) (ps : List Property) → starts_above k ps ≡ true → starts_at_or_above k ps ≡ true
above_step k [] h = refl
above_step k (p ∷ ps) h = ap (λ b. cond b false true) ((key_below-weak (λ (x : Property). x)).one_way (record { key = k; value = [] }) p h)

-- keys that rise are in order
pub rise-in_order : (ps : List Property) → keys_rise ps ≡ true → is_in_order ps ≡ true
rise-in_order [] h = refl
rise-in_order (p ∷ ps) h =
    let (first, more) = and_parts (starts_above p.key ps) (keys_rise ps) h in
    and_from _ _ (above_step p.key ps first) (rise-in_order ps more)
