-- Ticks before which nothing is due.
use Rattle.std.proofs.Common.{◌≡◌, ℕ, zero, suc, ◌<◌, ◌≤◌, ◌+◌, ℤ, pos, negsuc, int_le, nat_eq, nat_le, ◌||◌, ◌⊎◌, inl, inr, Bool, true, false, cond, List, [], ◌∷◌, length, get_or, take, filter, refl, sym, ap, subst, ◌∙◌, arith}
use Rattle.std.specs.List.{flat_map, list_any}
use Rattle.std.proofs.lemmas.Int.{ints}
use Rattle.std.proofs.lemmas.Bool.{and_parts, and_from, eq-eqb, eqb-true, or_right, le-leb, leb-true}
use Rattle.std.proofs.lemmas.List.{take_more}
use Rattle.std.proofs.lemmas.List.Folds.{list_all_more, list_all-append, list_any-append}
use Rattle.std.proofs.Math.Bool.{or-false, or_assoc}
use Rattle.av_types.specs.declared.tick.Entry.{Entry}
use Rattle.av_ticks.specs.Entries.{is_due}
use Rattle.av_world.specs.Due.{at_least, is_reached, tick_of}

pub at_least_weaker : (m n : ℕ) (es : List Entry) → m ≤ n → at_least n es ≡ true → at_least m es ≡ true
at_least_weaker m n [] h a = refl
at_least_weaker m n (e ∷ es) h a =
    let parts = and_parts (nat_le n (tick_of e.due)) (at_least n es) a in
    let first : n ≤ tick_of e.due = leb-true n (tick_of e.due) parts.0 in
    and_from (nat_le m (tick_of e.due)) (at_least m es) (le-leb m (tick_of e.due) (omega arith)) (at_least_weaker m n es h parts.1)

pub at_least_next : (m n : ℕ) (es : List Entry) (i : ℕ) (d : Entry) → i < length es → m ≤ n → m ≤ tick_of (get_or es i d).due → at_least n (take i es) ≡ true → at_least m (take (i + 1) es) ≡ true
at_least_next m n es i d h less due a =
    list_all_more (λ e. nat_le m (tick_of e.due)) es i d h ∙ and_from (at_least m (take i es)) (nat_le m (tick_of (get_or es i d).due)) (at_least_weaker m n (take i es) less a) (le-leb m (tick_of (get_or es i d).due) due)

-- before that tick nothing is due
pub none_due : (t n : ℕ) (es : List Entry) → t < n → at_least n es ≡ true → filter (is_due t) es ≡ []
none_due t n [] h a = refl
none_due t n (e ∷ es) h a =
    let parts = and_parts (nat_le n (tick_of e.due)) (at_least n es) a in
    ap (λ b. cond b (e ∷ filter (is_due t) es) (filter (is_due t) es)) (not_yet e.due (leb-true n (tick_of e.due) parts.0)) ∙ none_due t n es h parts.1 where
      not_yet : (z : ℤ) → n ≤ tick_of z → int_le z (pos t) ≡ false
      not_yet (pos d) l = grind (arith, ints)
      not_yet (negsuc d) l = absurd (omega arith)

-- one more list
pub at_least_flat : {X : Type 0} (f : X → List Entry) (m n : ℕ) (xs : List X) (i : ℕ) (d : X) → i < length xs → m ≤ n → at_least m (f (get_or xs i d)) ≡ true → at_least n (flat_map f (take i xs)) ≡ true → at_least m (flat_map f (take (i + 1) xs)) ≡ true
at_least_flat f m n [] i d h less one a = absurd (omega arith)
at_least_flat f m n (x ∷ xs) zero d h less one a = list_all-append (λ e. nat_le m (tick_of e.due)) (f x) [] ∙ and_from (at_least m (f x)) true one refl
at_least_flat f m n (x ∷ xs) (suc i) d h less one a =
    let split = and_parts (at_least n (f x)) (at_least n (flat_map f (take i xs))) (sym (list_all-append (λ e. nat_le n (tick_of e.due)) (f x) (flat_map f (take i xs))) ∙ a) in
    let step : suc i + 1 ≡ suc (i + 1) = omega arith in
    rw step (list_all-append (λ e. nat_le m (tick_of e.due)) (f x) (flat_map f (take (i + 1) xs)) ∙ and_from (at_least m (f x)) (at_least m (flat_map f (take (i + 1) xs))) (at_least_weaker m n (f x) less split.0) (at_least_flat f m n xs i d (omega arith) less one split.1))

-- ---- the soonest tick is that of an entry

or_more : (a b c : Bool) → (b ≡ true → c ≡ true) → a || b ≡ true → a || c ≡ true
or_more true b c h was = refl
or_more false b c h was = h was

any_more : (t : Entry → Bool) (es : List Entry) (i : ℕ) (d : Entry) → i < length es → list_any t (take (i + 1) es) ≡ list_any t (take i es) || t (get_or es i d)
any_more t es i d low =
    ap (list_any t) (take_more es i d low) ∙ (list_any-append t (take i es) (get_or es i d ∷ []) ∙ ap (λ b. list_any t (take i es) || b) (or-false (t (get_or es i d))))

pub reached_next : (most old new : ℕ) (es : List Entry) (i : ℕ) (d : Entry) → i < length es → (new ≡ old) ⊎ (new ≡ tick_of (get_or es i d).due)
    → nat_eq old most || is_reached old (take i es) ≡ true → nat_eq new most || is_reached new (take (i + 1) es) ≡ true
reached_next most old new es i d low (inl same) was =
    let later : is_reached old (take i es) ≡ true → is_reached old (take (i + 1) es) ≡ true = λ g. any_more (λ e. nat_eq old (tick_of e.due)) es i d low ∙ ap (λ b. b || nat_eq old (tick_of (get_or es i d).due)) g in
    subst (λ n. nat_eq n most || is_reached n (take (i + 1) es) ≡ true) (sym same) (or_more (nat_eq old most) (is_reached old (take i es)) (is_reached old (take (i + 1) es)) later was)
reached_next most old new es i d low (inr here) was =
    let now : nat_eq new (tick_of (get_or es i d).due) ≡ true = eq-eqb new (tick_of (get_or es i d).due) here in
    or_right (nat_eq new most) (is_reached new (take (i + 1) es)) (any_more (λ e. nat_eq new (tick_of e.due)) es i d low ∙ or_right (is_reached new (take i es)) (nat_eq new (tick_of (get_or es i d).due)) now)

any_flat : {X : Type 0} (f : X → List Entry) (t : Entry → Bool) (xs : List X) (i : ℕ) (d : X) → i < length xs → list_any t (flat_map f (take (i + 1) xs)) ≡ list_any t (flat_map f (take i xs)) || list_any t (f (get_or xs i d))
any_flat f t [] i d low = absurd (omega arith)
any_flat f t (x ∷ xs) zero d low = list_any-append t (f x) [] ∙ or-false (list_any t (f x))
any_flat f t (x ∷ xs) (suc i) d low =
    let step : suc i + 1 ≡ suc (i + 1) = omega arith in
    let last = list_any t (f (get_or xs i d)) in
    rw step (list_any-append t (f x) (flat_map f (take (i + 1) xs))
    ∙ (ap (λ b. list_any t (f x) || b) (any_flat f t xs i d (omega arith))
    ∙ (sym (or_assoc (list_any t (f x)) (list_any t (flat_map f (take i xs))) last)
    ∙ ap (λ b. b || last) (sym (list_any-append t (f x) (flat_map f (take i xs)))))))

pub reached_flat : {X : Type 0} (f : X → List Entry) (most old new : ℕ) (xs : List X) (i : ℕ) (d : X) → i < length xs → nat_eq new old || is_reached new (f (get_or xs i d)) ≡ true
    → nat_eq old most || is_reached old (flat_map f (take i xs)) ≡ true → nat_eq new most || is_reached new (flat_map f (take (i + 1) xs)) ≡ true
reached_flat f most old new xs i d low one was = by (nat_eq new old) refl one where
  later : is_reached old (flat_map f (take i xs)) ≡ true → is_reached old (flat_map f (take (i + 1) xs)) ≡ true
  later g = any_flat f (λ e. nat_eq old (tick_of e.due)) xs i d low ∙ ap (λ b. b || is_reached old (f (get_or xs i d))) g

  by : (b : Bool) → nat_eq new old ≡ b → b || is_reached new (f (get_or xs i d)) ≡ true → nat_eq new most || is_reached new (flat_map f (take (i + 1) xs)) ≡ true
  by true s h = subst (λ n. nat_eq n most || is_reached n (flat_map f (take (i + 1) xs)) ≡ true) (sym (eqb-true new old s))
      (or_more (nat_eq old most) (is_reached old (flat_map f (take i xs))) (is_reached old (flat_map f (take (i + 1) xs))) later was)
  by false s h = or_right (nat_eq new most) (is_reached new (flat_map f (take (i + 1) xs)))
      (any_flat f (λ e. nat_eq new (tick_of e.due)) xs i d low ∙ or_right (is_reached new (flat_map f (take i xs))) (is_reached new (f (get_or xs i d))) h)
