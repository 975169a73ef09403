-- Properties put in the order of their keys.
use Rattle.std.proofs.Common.{◌≡◌, ℕ, List, [], ◌∷◌, Bool, true, false, not, cond, Ordering, Less, Equal, Greater, refl, sym, ap, ◌∙◌}
use Rattle.std.specs.List.{list_all}
use Rattle.std.specs.Str.{bytes_eq}
use Rattle.std.specs.Ordering.{is_lt, is_eq, nat_cmp, ordering_reverse}
use Rattle.std.specs.Cmp.Lexicographic.{slice_cmp}
use Rattle.std.specs.Cmp.Derive.{both_true}
use Rattle.std.proofs.lemmas.Bool.{and_parts, false≢true}
use Rattle.std.proofs.lemmas.Cmp.{nat_list_cmp_total}
use Rattle.std.proofs.lemmas.Map.Text.{is_eq-slice_cmp}
use Rattle.av_state.specs.BlockState.{Property, insert_property, in_order, starts_above, keys_rise}

module _ (f : Property → Bool) where
  all_insert : (p : Property) (qs : List Property) → f p ≡ true → list_all f qs ≡ true → list_all f (insert_property p qs) ≡ true
  all_insert p [] h k = both_true h refl
  all_insert p (q ∷ qs) h k =
      let parts = and_parts (f q) (list_all f qs) k in
      let more = all_insert p qs h parts.1 in
      elim (is_lt (slice_cmp nat_cmp q.key p.key)) as (λ b. list_all f (cond b (q ∷ insert_property p qs) (p ∷ q ∷ qs)) ≡ true) [
        | true ↦ both_true parts.0 more
        | false ↦ both_true h k
      ]

  -- what holds of each holds of each in order
  pub all_in_order : (ps : List Property) → list_all f ps ≡ true → list_all f (in_order ps) ≡ true
  all_in_order [] h = refl
  all_in_order (p ∷ ps) h =
      let parts = and_parts (f p) (list_all f ps) h in
      all_insert p (in_order ps) parts.0 (all_in_order ps parts.1)

-- the property has another key
abbrev pub has_other_key : List ℕ → Property → Bool
has_other_key key q = not (bytes_eq q.key key)

-- no key is there twice
abbrev pub AreApart : List Property → Type 0
AreApart [] = Unit {0}
AreApart (p ∷ ps) = (list_all (has_other_key p.key) ps ≡ true) × AreApart ps

reversed : (o : Ordering) → is_lt o ≡ false → not (is_eq o) ≡ true → is_lt (ordering_reverse o) ≡ true
reversed Less h k = absurd (false≢true (sym h))
reversed Equal h k = absurd (false≢true k)
reversed Greater h k = refl

-- another key that is not below is above
above : (p q : Property) → is_lt (slice_cmp nat_cmp q.key p.key) ≡ false → has_other_key p.key q ≡ true → is_lt (slice_cmp nat_cmp p.key q.key) ≡ true
above p q h k =
    ap is_lt (nat_list_cmp_total.antisymm p.key q.key)
    ∙ reversed (slice_cmp nat_cmp q.key p.key) h (ap not (is_eq-slice_cmp q.key p.key) ∙ k)

starts_insert : (key : List ℕ) (p : Property) (qs : List Property) → is_lt (slice_cmp nat_cmp key p.key) ≡ true → starts_above key qs ≡ true → starts_above key (insert_property p qs) ≡ true
starts_insert key p [] h k = h
starts_insert key p (q ∷ qs) h k =
    elim (is_lt (slice_cmp nat_cmp q.key p.key)) as (λ b. starts_above key (cond b (q ∷ insert_property p qs) (p ∷ q ∷ qs)) ≡ true) [ true ↦ k | false ↦ h ]

rise_step : (b : Bool) (p q : Property) (qs : List Property) → is_lt (slice_cmp nat_cmp q.key p.key) ≡ b → has_other_key p.key q ≡ true → keys_rise (q ∷ qs) ≡ true
    → keys_rise (insert_property p qs) ≡ true → keys_rise (cond b (q ∷ insert_property p qs) (p ∷ q ∷ qs)) ≡ true
rise_step true p q qs e differs rise more = both_true (starts_insert q.key p qs e (and_parts (starts_above q.key qs) (keys_rise qs) rise).0) more
rise_step false p q qs e differs rise more = both_true (above p q e differs) rise

rise_insert : (p : Property) (qs : List Property) → list_all (has_other_key p.key) qs ≡ true → keys_rise qs ≡ true → keys_rise (insert_property p qs) ≡ true
rise_insert p [] h k = refl
rise_insert p (q ∷ qs) h k =
    let differ = and_parts (has_other_key p.key q) (list_all (has_other_key p.key) qs) h in
    let rise = and_parts (starts_above q.key qs) (keys_rise qs) k in
    rise_step (is_lt (slice_cmp nat_cmp q.key p.key)) p q qs refl differ.0 k (rise_insert p qs differ.1 rise.1)

-- keys that are apart rise in order
pub rise_in_order : (ps : List Property) → AreApart ps → keys_rise (in_order ps) ≡ true
rise_in_order [] h = refl
rise_in_order (p ∷ ps) h = rise_insert p (in_order ps) (all_in_order (has_other_key p.key) ps h.0) (rise_in_order ps h.1)
