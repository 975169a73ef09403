-- The edits of a tick, among edits that are sorted by tick.
use Rattle.std.proofs.Common.{◌≡◌, ◌∙◌, ℕ, zero, suc, ◌+◌, ◌-◌, ◌<◌, ◌≤◌, nat_eq, nat_lt, pos, ◌⊎◌, inl, inr, map, List, [], ◌∷◌, length, get_or, take, drop, filter, not, ◌&&◌, Bool, true, false, cond, refl, sym, ap, arith}
use Rattle.std.proofs.lemmas.Bool.{cases_lt}
use Rattle.std.proofs.lemmas.Bool.Decides.{nat_tests}
use Rattle.std.proofs.lemmas.List.{take_all}
use Rattle.std.proofs.lemmas.List.Elements.{filter_agree}
use Rattle.std.specs.declared.cmp.Ordering.TheVariants.{Less, Equal, Greater}
use Rattle.std.specs.Ordering.{is_lt, nat_cmp}
use Rattle.std.specs.List.Sorted.{IsNonDecreasingBy, IsStableByKey, ties}
use Rattle.av_land.specs.Idle.{edits_at}
use Rattle.av_edits.specs.declared.edit.Edit.{Edit}
use Rattle.av_edits.specs.Numbered.{number_set, number_sets}
use Rattle.av_serial.specs.Schedule.{tick_of, AreUpTo, IsOfLaterTick, SameByTick}

below_is_other : (x t : ℕ) → x < t → nat_eq x t ≡ false
below_is_other x t h = grind (arith, nat_tests)

above_is_other : (x t : ℕ) → t < x → nat_eq x t ≡ false
above_is_other x t h = grind (arith, nat_tests)

none_at : (t : ℕ) (es : List Edit) → ((i : ℕ) (d : Edit) → i < length es → nat_eq (tick_of (get_or es i d)) t ≡ false) → edits_at t (number_sets es) ≡ []
none_at t [] h = refl
none_at t (e ∷ es) h =
    ap (λ b. cond b (number_set e ∷ edits_at t (number_sets es)) (edits_at t (number_sets es))) (h 0 e (omega arith))
    ∙ none_at t es (λ i d l. h (suc i) d (omega arith))

-- none of tick t from index b on
at_front : (t b : ℕ) (es : List Edit) → ((i : ℕ) (d : Edit) → b ≤ i → i < length es → nat_eq (tick_of (get_or es i d)) t ≡ false) → edits_at t (number_sets (take b es)) ≡ edits_at t (number_sets es)
at_front t zero es h = sym (none_at t es (λ i d l. h i d (omega arith) l))
at_front t (suc b) [] h = refl
at_front t (suc b) (e ∷ es) h = ap (λ xs. cond (nat_eq e.tick t) (number_set e ∷ xs) xs) (at_front t b es (λ i d le l. h (suc i) d (omega arith) (omega arith)))

-- nor before index a
between : (t a b : ℕ) (es : List Edit) → a ≤ b → ((i : ℕ) (d : Edit) → i < a → i < length es → nat_eq (tick_of (get_or es i d)) t ≡ false)
    → ((i : ℕ) (d : Edit) → b ≤ i → i < length es → nat_eq (tick_of (get_or es i d)) t ≡ false) → edits_at t (number_sets (take (b - a) (drop a es))) ≡ edits_at t (number_sets es)
between t zero b es le p q = let e : b - 0 ≡ b = omega arith in ap (λ m. edits_at t (number_sets (take m es))) e ∙ at_front t b es q
between t (suc a) b [] le p q = ap (λ (xs : List Edit). edits_at t (number_sets xs)) (take_all (b - suc a) [] (omega arith))
between t (suc a) zero (e ∷ es) le p q = absurd (omega arith)
between t (suc a) (suc b) (e ∷ es) le p q =
    let step : suc b - suc a ≡ b - a = omega arith in
    ap (λ m. edits_at t (number_sets (take m (drop a es)))) step
    ∙ (between t a b es (omega arith) (λ i d less l. p (suc i) d (omega arith) (omega arith)) (λ i d more l. q (suc i) d (omega arith) (omega arith))
    ∙ sym (ap (λ c. cond c (number_set e ∷ edits_at t (number_sets es)) (edits_at t (number_sets es))) (p 0 e (omega arith) (omega arith))))

-- the edits of tick now stand between where those of earlier ticks end and where those of this tick end
pub own_edits : (done now from to : ℕ) (es : List Edit) → now ≡ done + 1 → from ≤ to → AreUpTo done 0 from es → IsNonDecreasingBy tick_of es → IsOfLaterTick now to es
    → edits_at now (number_sets (take (to - from) (drop from es))) ≡ edits_at now (number_sets es)
own_edits done now from to es next le passed sorted after =
    between now from to es le
    (λ i d less l. let h : tick_of (get_or es i d) ≤ done = passed i d (omega arith) less in below_is_other (tick_of (get_or es i d)) now (omega arith))
    (λ i d more l. let h : now < tick_of (get_or es to d) = after d (omega arith) in let g : tick_of (get_or es to d) ≤ tick_of (get_or es i d) = sorted to i d more l in
    above_is_other (tick_of (get_or es i d)) now (omega arith))

-- edits passed before, and others passed since
pub passed_on : (done now from to : ℕ) (es : List Edit) → now ≡ done + 1 → AreUpTo done 0 from es → AreUpTo now from to es → AreUpTo now 0 to es
passed_on done now from to es next a b i d low less = by (cases_lt i from) where
  by : (i < from) ⊎ (from ≤ i) → tick_of (get_or es i d) ≤ now
  by (inl h) = let g : tick_of (get_or es i d) ≤ done = a i d low h in omega arith
  by (inr h) = b i d h less

-- ---- a sort by tick that keeps ties in order

lt_is : (p u : Bool) → is_lt (cond p Less (cond u Equal Greater)) ≡ p
lt_is true u = refl
lt_is false true = refl
lt_is false false = refl

neither : (a t : ℕ) → (not (nat_lt t a) && not (nat_lt a t)) ≡ nat_eq a t
neither a t = by (nat_lt t a) refl (nat_lt a t) refl (nat_eq a t) refl where
  by : (p : Bool) → nat_lt t a ≡ p → (q : Bool) → nat_lt a t ≡ q → (r : Bool) → nat_eq a t ≡ r → (not p && not q) ≡ r
  by true e q f false g = refl
  by true e q f true g = let x : t < a = grind (arith, nat_tests) in let y : a ≡ t = grind (arith, nat_tests) in absurd (omega arith)
  by false e true f false g = refl
  by false e true f true g = let x : a < t = grind (arith, nat_tests) in let y : a ≡ t = grind (arith, nat_tests) in absurd (omega arith)
  by false e false f true g = refl
  by false e false f false g = let x : a ≤ t = grind (arith, nat_tests) in let y : t ≤ a = grind (arith, nat_tests) in let z : a ≡ t = omega arith in let h : nat_eq a t ≡ true = grind (arith, nat_tests) in sym h ∙ g

ties_are : (t a : ℕ) → (not (is_lt (nat_cmp t a)) && not (is_lt (nat_cmp a t))) ≡ nat_eq a t
ties_are t a = (λ i. not (lt_is (nat_lt t a) (nat_eq t a) i) && not (lt_is (nat_lt a t) (nat_eq a t) i)) ∙ neither a t

at_map : (t : ℕ) (es : List Edit) → edits_at t (number_sets es) ≡ map number_set (filter (λ e. nat_eq (tick_of e) t) es)
at_map t [] = refl
at_map t (e ∷ es) = by (nat_eq e.tick t) (at_map t es) where
  by : (b : Bool) → edits_at t (number_sets es) ≡ map number_set (filter (λ e. nat_eq (tick_of e) t) es)
      → cond b (number_set e ∷ edits_at t (number_sets es)) (edits_at t (number_sets es)) ≡ map number_set (cond b (e ∷ filter (λ e. nat_eq (tick_of e) t) es) (filter (λ e. nat_eq (tick_of e) t) es))
  by true r = ap (λ xs. number_set e ∷ xs) r
  by false r = r

pub same_by_tick : (es fs : List Edit) → IsStableByKey tick_of nat_cmp es fs → SameByTick fs es
same_by_tick es fs stable t =
    let z : Edit = record { line = 0; tick = t; pos = record { x = pos 0; y = pos 0; z = pos 0 }; number = 0 } in
    let test : Edit → Bool = λ e. nat_eq (tick_of e) t in
    let lt : Edit → Edit → Bool = λ x y. is_lt (nat_cmp (tick_of x) (tick_of y)) in
    let agree : (xs : List Edit) → filter (ties lt z) xs ≡ filter test xs = filter_agree (ties lt z) test (λ e. ties_are t (tick_of e)) in
    at_map t fs ∙ (ap (map number_set) (sym (agree fs) ∙ (stable z ∙ agree es)) ∙ sym (at_map t es))
