-- Times that do not fall.
use Rattle.std.proofs.Common.{◌≡◌, ℕ, zero, suc, ◌+◌, ◌-◌, ◌<◌, ◌≤◌, Bool, true, false, not, ℤ, pos, int_le, int_lt, List, MatchBool, Some, slice_get, subst, [], ◌∷◌, ◌++◌, length, take, drop, get_or, filter, refl, sym, ap, ◌∙◌, arith, true≢false, FitsSigned, w64}
use Rattle.std.specs.Int.{int_min}
use Rattle.std.specs.List.{AllAdjacentBelow, AllWithin, fold}
use Rattle.std.specs.Cmp.{IsStrictWeakOrder}
use Rattle.std.specs.List.Sorted.{IsPartitionPoint}
use Rattle.std.proofs.lemmas.Grind.{common_steps}
use Rattle.std.proofs.lemmas.Int.{ints}
use Rattle.std.proofs.lemmas.List.{get_or_default}
use Rattle.std.proofs.lemmas.List.Kept.{IsSortedBy-filter, IsSortedBy-push}
use Rattle.std.proofs.lemmas.List.Sorted.{sorted_far}
use Rattle.std.proofs.lemmas.Option.{get_or_from_slice_get}
use Rattle.av_types.specs.declared.tick.Entry.{Entry}
use Rattle.av_ticks.specs.Entries.{is_due, least_due}
use Rattle.av_ticks.specs.Rising.{AreRising}

one_way : (a b : ℤ) → int_lt a b ≡ true → int_lt b a ≡ false
one_way a b h = grind (arith, ints)

chain : (a b d : ℤ) → int_lt a b ≡ false → int_lt b d ≡ false → int_lt a d ≡ false
chain a b d h g = grind (arith, ints)

-- by time
pub time_order : IsStrictWeakOrder (λ (a b : Entry). int_lt a.due b.due)
time_order = record { one_way = λ x y h. one_way x.due y.due h; chain = λ x y z h g. chain x.due y.due z.due h g }

later : (a b : ℤ) → true ≡ int_le a b → int_lt b a ≡ false
later a b h = grind (arith, ints)

pub none_falls : (Q : Type 0) (es : List Entry) (r : Bool) → r ≡ true → MatchBool r (AllAdjacentBelow (λ a b. true ≡ int_le a.due b.due) es (length es)) Q → AreRising es
none_falls Q es true is h = λ k d from within. later (get_or es k d).due (get_or es (k + 1) d).due (h k d within)
none_falls Q es false is h = absurd (true≢false (sym is))

-- an entry that is not due before the last one may follow
pub rising_push : (es : List Entry) (last e : Entry) → Some last ≡ slice_get es (length es - 1) → int_le last.due e.due ≡ true → AreRising es → AreRising (es ++ e ∷ [])
rising_push es last e is le rising =
    IsSortedBy-push (λ a b. int_lt a.due b.due) es e rising (λ d some. subst (λ x. int_lt e.due x.due ≡ false) (sym (get_or_from_slice_get es (length es - 1) last d (sym is))) (later last.due e.due (sym le)))

-- some of them rise too
pub rising_filter : (p : Entry → Bool) (es : List Entry) → AreRising es → AreRising (filter p es)
rising_filter p es rising = IsSortedBy-filter (λ a b. int_lt a.due b.due) time_order p es rising

not_le : (a b t : ℤ) → int_lt b a ≡ false → int_le a t ≡ false → int_le b t ≡ false
not_le a b t h g = grind (arith, ints)

-- from one on that is not due none is
later_from : (now : ℕ) (es : List Entry) (n : ℕ) (e : Entry) → AreRising es → is_due now (get_or es n e) ≡ false → AllWithin (λ e. is_due now e ≡ false) es n (length es)
later_from now es n e rising here k d from below =
    let same : get_or es n e ≡ get_or es n d = get_or_default es n e d (omega (arith, from, below)) in
    not_le (get_or es n d).due (get_or es k d).due (pos now) (sorted_far _ time_order es rising n k d from below) (ap (is_due now) (sym same) ∙ here)

-- so they part there
pub part_at : (now : ℕ) (es : List Entry) (n : ℕ) (e : Entry) → AreRising es → AllWithin (λ e. is_due now e ≡ true) es 0 n → is_due now (get_or es n e) ≡ false → IsPartitionPoint (λ e. is_due now e ≡ true) (λ e. is_due now e ≡ false) es n
part_at now es n e rising due here = (due, later_from now es n e rising here)

pub part_at_end : (now : ℕ) (es : List Entry) (n : ℕ) → length es ≤ n → AllWithin (λ e. is_due now e ≡ true) es 0 n → IsPartitionPoint (λ e. is_due now e ≡ true) (λ e. is_due now e ≡ false) es (length es)
part_at_end now es n past due = ((λ k d from below. due k d from (omega (arith, below, past))), (λ k d from below. absurd (omega (arith, from, below))))

module _ {X : Type 0} (p : X → Bool) where
  next : (x : X) (xs : List X) (low high : ℕ) (b : Bool) → AllWithin (λ y. p y ≡ b) (x ∷ xs) (low + 1) (high + 1) → AllWithin (λ y. p y ≡ b) xs low high
  next x xs low high b h k d from below = h (suc k) d (omega arith) (omega arith)

  -- what passes is what stands before the point, and the rest is behind it
  pub passing : (xs : List X) (n : ℕ) → n ≤ length xs → IsPartitionPoint (λ y. p y ≡ true) (λ y. p y ≡ false) xs n → filter p xs ≡ take n xs
  passing [] n le point = grind (arith, common_steps)
  passing (x ∷ xs) zero le point = rw (point.1 0 x (omega arith) (omega arith)) (passing xs 0 (omega arith) ((λ k d from below. absurd (omega arith)), next x xs 0 (length xs) false (λ k d from below. point.1 k d (omega arith) (omega arith))))
  passing (x ∷ xs) (suc n) le point = rw (point.0 0 x (omega arith) (omega arith)) (ap (λ l. x ∷ l) (passing xs n (omega arith) (next x xs 0 n true (λ k d from below. point.0 k d (omega arith) (omega arith)), next x xs n (length xs) false (λ k d from below. point.1 k d (omega arith) (omega arith)))))

  pub failing : (xs : List X) (n : ℕ) → n ≤ length xs → IsPartitionPoint (λ y. p y ≡ true) (λ y. p y ≡ false) xs n → filter (λ y. not (p y)) xs ≡ drop n xs
  failing [] n le point = grind (arith, common_steps)
  failing (x ∷ xs) zero le point = rw (point.1 0 x (omega arith) (omega arith)) (ap (λ l. x ∷ l) (failing xs 0 (omega arith) ((λ k d from below. absurd (omega arith)), next x xs 0 (length xs) false (λ k d from below. point.1 k d (omega arith) (omega arith)))))
  failing (x ∷ xs) (suc n) le point = rw (point.0 0 x (omega arith) (omega arith)) (failing xs n (omega arith) (next x xs 0 n true (λ k d from below. point.0 k d (omega arith) (omega arith)), next x xs n (length xs) false (λ k d from below. point.1 k d (omega arith) (omega arith))))

passes_again : {X : Type 0} (p : X → Bool) (xs : List X) → filter p (filter p xs) ≡ filter p xs
passes_again p [] = refl
passes_again p (x ∷ xs) = by (p x) refl (passes_again p xs) where
  by : (b : Bool) → p x ≡ b → filter p (filter p xs) ≡ filter p xs → filter p (filter p (x ∷ xs)) ≡ filter p (x ∷ xs)
  by true is rest = rw (is, is) (ap (λ l. x ∷ l) rest)
  by false is rest = rw is rest

-- what is taken from a list that passes, passes
pub taken_again : {X : Type 0} (p : X → Bool) (xs : List X) (n : ℕ) → filter p xs ≡ take n xs → filter p (take n xs) ≡ filter p xs
taken_again p xs n h = ap (filter p) (sym h) ∙ passes_again p xs

least_stays : (a b : ℤ) → int_lt b a ≡ false → int_min a b ≡ a
least_stays a b h = grind (arith, ints)

none_below : (a : ℤ) (es : List Entry) → ((k : ℕ) (d : Entry) → k < length es → int_lt (get_or es k d).due a ≡ false) → fold (λ t e. int_min t e.due) a es ≡ a
none_below a [] h = refl
none_below a (e ∷ es) h = rw (least_stays a e.due (h 0 e (omega arith))) (none_below a es (λ k d within. h (suc k) d (omega arith)))

most : (a : ℤ) → FitsSigned w64 a → int_min (pos 9223372036854775807) a ≡ a
most a fits = grind (arith, ints)

-- the first of them is due first
pub first_is_least : (es : List Entry) (e : Entry) → Some e ≡ slice_get es 0 → AreRising es → FitsSigned w64 e.due → e.due ≡ least_due es
first_is_least [] e is rising fits = absurd (none_there is) where
  none_there : Some e ≡ slice_get {X = Entry} [] 0 → ⊥
  none_there is = grind (arith, common_steps)
first_is_least (x ∷ xs) e is rising fits =
    let same : x ≡ e = get_or_from_slice_get (x ∷ xs) 0 e x (sym is) in
    let stays = none_below x.due xs (λ k d within. sorted_far _ time_order (x ∷ xs) rising 0 (suc k) d (omega arith) (omega arith)) in
    sym (rw (most x.due (subst (λ y. FitsSigned w64 y.due) (sym same) fits)) (stays ∙ ap (λ y. y.due) same))
