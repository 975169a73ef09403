-- The least time of a list as a tick before which nothing is due.
use Rattle.std.proofs.Common.{◌≡◌, ◌≢◌, ℕ, ℤ, pos, negsuc, ◌≤ℤ◌, nat_eq, nat_le, int_lt, ◌||◌, ◌⊎◌, inl, inr, Bool, true, false, cond, List, [], ◌∷◌, filter, ◌++◌, refl, sym, ap, subst, ◌∙◌, arith, true≢false}
use Rattle.std.specs.Int.{int_min}
use Rattle.std.specs.List.{fold, list_any}
use Rattle.std.proofs.lemmas.Int.{ints}
use Rattle.std.proofs.lemmas.Bool.{and_from, eq-eqb, or_left, or_right}
use Rattle.std.proofs.lemmas.List.{append-nil}
use Rattle.av_types.specs.declared.tick.Entry.{Entry}
use Rattle.av_ticks.specs.Entries.{is_due, least_due}
use Rattle.av_world.specs.Due.{at_least, is_reached, tick_of}

abbrev least_from : ℤ → List Entry → ℤ
least_from a es = fold (λ t e. int_min t e.due) a es

min_below : (a d : ℤ) → int_min a d ≤ℤ a
min_below a d = grind (arith, ints)

min_below_other : (a d : ℤ) → int_min a d ≤ℤ d
min_below_other a d = grind (arith, ints)

below_trans : (a b c : ℤ) → a ≤ℤ b → b ≤ℤ c → a ≤ℤ c
below_trans a b c h g = omega (arith, ints)

below_start : (a : ℤ) (es : List Entry) → least_from a es ≤ℤ a
below_start a [] = omega (arith, ints)
below_start a (e ∷ es) = below_trans (least_from a (e ∷ es)) (int_min a e.due) a (below_start (int_min a e.due) es) (min_below a e.due)

none_below : (n : ℕ) → nat_le 0 n ≡ true
none_below n = grind (arith, ints)

tick_below : (a b : ℤ) → a ≤ℤ b → nat_le (tick_of a) (tick_of b) ≡ true
tick_below (pos a) (pos b) h = grind (arith, ints)
tick_below (pos a) (negsuc b) h = absurd (omega (arith, ints))
tick_below (negsuc a) b h = none_below (tick_of b)

least_low : (a : ℤ) (es : List Entry) → at_least (tick_of (least_from a es)) es ≡ true
least_low a [] = refl
least_low a (e ∷ es) =
    let first = below_trans (least_from a (e ∷ es)) (int_min a e.due) e.due (below_start (int_min a e.due) es) (min_below_other a e.due) in
    and_from (nat_le (tick_of (least_from a (e ∷ es))) (tick_of e.due)) (at_least (tick_of (least_from a (e ∷ es))) es) (tick_below (least_from a (e ∷ es)) e.due first) (least_low (int_min a e.due) es)

least_reached : (a : ℤ) (es : List Entry) → (least_from a es ≡ a) ⊎ (is_reached (tick_of (least_from a es)) es ≡ true)
least_reached a [] = inl refl
least_reached a (e ∷ es) = by (least_reached (int_min a e.due) es) where
  here : least_from a (e ∷ es) ≡ e.due → is_reached (tick_of (least_from a (e ∷ es))) (e ∷ es) ≡ true
  here same = or_left (nat_eq (tick_of (least_from a (e ∷ es))) (tick_of e.due)) (is_reached (tick_of (least_from a (e ∷ es))) es) (eq-eqb (tick_of (least_from a (e ∷ es))) (tick_of e.due) (ap tick_of same))

  one : (b : Bool) → int_lt e.due a ≡ b → least_from a (e ∷ es) ≡ cond b e.due a → (least_from a (e ∷ es) ≡ a) ⊎ (is_reached (tick_of (least_from a (e ∷ es))) (e ∷ es) ≡ true)
  one true t same = inr (here same)
  one false t same = inl same

  by : (least_from (int_min a e.due) es ≡ int_min a e.due) ⊎ (is_reached (tick_of (least_from (int_min a e.due) es)) es ≡ true) → (least_from a (e ∷ es) ≡ a) ⊎ (is_reached (tick_of (least_from a (e ∷ es))) (e ∷ es) ≡ true)
  by (inl same) = one (int_lt e.due a) refl same
  by (inr later) = inr (or_right (nat_eq (tick_of (least_from a (e ∷ es))) (tick_of e.due)) (is_reached (tick_of (least_from a (e ∷ es))) es) later)

-- the least time is that of an entry, unless it is the greatest of all times
pub least_is_reached : (s : ℤ) (es : List Entry) → s ≡ least_due es → s ≢ pos 9223372036854775807 → is_reached (tick_of s) es ≡ true
least_is_reached s es least other = subst (λ t. is_reached (tick_of t) es ≡ true) (sym least) (by (least_reached (pos 9223372036854775807) es)) where
  by : (least_due es ≡ pos 9223372036854775807) ⊎ (is_reached (tick_of (least_due es)) es ≡ true) → is_reached (tick_of (least_due es)) es ≡ true
  by (inl same) = absurd (other (least ∙ same))
  by (inr there) = there

pub least_is_low : (s : ℤ) (es : List Entry) → s ≡ least_due es → at_least (tick_of s) es ≡ true
least_is_low s es least = subst (λ t. at_least (tick_of t) es ≡ true) (sym least) (least_low (pos 9223372036854775807) es)

-- the sooner of a tick and that of the list
pub sooner_reached : (most s r : ℕ) (es : List Entry) → (r ≡ most) ⊎ (r ≡ s) → is_reached s es ≡ true → nat_eq r most || is_reached r es ≡ true
sooner_reached most s r es (inl same) h = or_left (nat_eq r most) (is_reached r es) (eq-eqb r most same)
sooner_reached most s r es (inr same) h = or_right (nat_eq r most) (is_reached r es) (subst (λ t. is_reached t es ≡ true) (sym same) h)

-- where nothing is due nothing is picked
nothing_picked : (now : ℕ) (es : List Entry) → list_any (is_due now) es ≡ false → filter (is_due now) es ≡ []
nothing_picked now [] none = refl
nothing_picked now (e ∷ es) none = by (is_due now e) refl (λ n. nothing_picked now es n) none where
  by : (b : Bool) → is_due now e ≡ b → (list_any (is_due now) es ≡ false → filter (is_due now) es ≡ []) → b || list_any (is_due now) es ≡ false → filter (is_due now) (e ∷ es) ≡ []
  by true s rest n = absurd (true≢false n)
  by false s rest n = rw s (rest n)

pub nothing_pushed : (now : ℕ) (xs es : List Entry) → list_any (is_due now) es ≡ false → xs ≡ xs ++ filter (is_due now) es
nothing_pushed now xs es none = sym (append-nil xs) ∙ ap (λ ys. xs ++ ys) (sym (nothing_picked now es none))
