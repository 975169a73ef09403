-- What turns in the tick's order make stands in the order of makers and numbers.
use Rattle.std.proofs.Common.{◌≡◌, ℕ, zero, suc, ◌<◌, ◌≤◌, Less, Equal, Greater, Bool, true, false, not, ◌&&◌, List, [], ◌∷◌, ◌++◌, length, get_or, ◌⊎◌, inl, inr, refl, sym, ap, ◌∙◌, arith, add-one}
use Rattle.std.specs.Ordering.{is_lt, nat_cmp, ordering_then}
use Rattle.std.specs.Cmp.{nat_cmp_is}
use Rattle.std.specs.List.Sorted.{IsSortedBy, ties}
use Rattle.std.proofs.lemmas.Bool.{true≢false, cases_order}
use Rattle.av_types.specs.declared.tick.Entry.{Entry}
use Rattle.av_types.specs.declared.tick.Made.{Made}
use Rattle.av_cells.specs.declared.kind.Kind.{Kind}
use Rattle.av_cells.specs.World.{World, Lists, listed_all, listed_if}
use Rattle.av_cells.specs.Turn.{turn}
use Rattle.av_ticks.specs.Entries.{made_order}
use Rattle.av_play.specs.Parts.{numbered}
use Rattle.av_play.specs.Play.{in_order, labelled, world_after, made_after, entries_of}

-- from a maker and a number on
abbrev IsFrom : ℕ → ℕ → Made → Type 0
IsFrom a c m = (a < m.maker) ⊎ ((a ≡ m.maker) × (c ≤ m.number))

abbrev RisesFrom : ℕ → ℕ → List Made → Type 0
RisesFrom a c [] = Unit {0}
RisesFrom a c (m ∷ ms) = IsFrom a c m × RisesFrom m.maker (suc m.number) ms

later_maker : (a c : ℕ) (m : Made) → IsFrom (suc a) 0 m → IsFrom a c m
later_maker a c m (inl h) = inl (omega arith)
later_maker a c m (inr h) = let e = h.0 in inl (omega arith)

rises_later : (a c : ℕ) (ms : List Made) → RisesFrom (suc a) 0 ms → RisesFrom a c ms
rises_later a c [] h = tt
rises_later a c (m ∷ ms) h = (later_maker a c m h.0, h.1)

rises_labelled : (a c : ℕ) (es : List Entry) (rest : List Made) → RisesFrom (suc a) 0 rest → RisesFrom a c (labelled a c es ++ rest)
rises_labelled a c [] rest h = rises_later a c rest h
rises_labelled a c (e ∷ es) rest h = (inr (refl, omega arith), rises_labelled a (suc c) es rest h)

pub rises_in_order : (k : ℕ → Kind) (now n : ℕ) (es : List Entry) (w : World) → RisesFrom n 0 (made_after k now (numbered n es) w)
rises_in_order k now n [] w = tt
rises_in_order k now n (e ∷ es) w = rises_labelled n 0 (turn k now e.pos w).made _ (rises_in_order k now (suc n) es (turn k now e.pos w).world)

not_below : (m l : Made) → IsFrom m.maker (suc m.number) l → is_lt (made_order l m) ≡ false
not_below m l (inl h) = ap (λ o. is_lt (ordering_then o (nat_cmp l.number m.number))) (sym (nat_cmp_is l.maker m.maker Greater h))
not_below m l (inr h) =
    let a = nat_cmp_is l.maker m.maker Equal (sym h.0) in
    let b = nat_cmp_is l.number m.number Greater (omega arith) in
    λ i. is_lt (ordering_then (sym a i) (sym b i))

rises_at : (a c : ℕ) (ms : List Made) → RisesFrom a c ms → (j : ℕ) (d : Made) → suc j < length ms → is_lt (made_order (get_or ms (suc j) d) (get_or ms j d)) ≡ false
rises_at a c [] h j d l = absurd (omega arith)
rises_at a c (m ∷ []) h j d l = absurd (omega arith)
rises_at a c (m ∷ x ∷ ms) h zero d l = not_below m x h.1.0
rises_at a c (m ∷ x ∷ ms) h (suc j) d l = rises_at m.maker (suc m.number) (x ∷ ms) h.1 j d (omega arith)

pub made_sorted : (k : ℕ → Kind) (now : ℕ) (es : List Entry) (w : World) → IsSortedBy (λ x y. is_lt (made_order x y)) (made_after k now (numbered 0 es) w)
made_sorted k now es w = λ j d l h. rw add-one (rises_at 0 0 (made_after k now (numbered 0 es) w) (rises_in_order k now 0 es w) j d (omega arith))

first_below : (x y : Made) → x.maker < y.maker → is_lt (made_order x y) ≡ true
first_below x y h = ap (λ o. is_lt (ordering_then o (nat_cmp x.number y.number))) (sym (nat_cmp_is x.maker y.maker Less h))

neither : (b c : Bool) → not b && not c ≡ true → (b ≡ false) × (c ≡ false)
neither false false h = (refl, refl)
neither false true h = absurd (true≢false (sym h))
neither true c h = absurd (true≢false (sym h))

pub same_maker : (x y : Made) → ties (λ a b. is_lt (made_order a b)) x y ≡ true → x.maker ≡ y.maker
same_maker x y h = by (cases_order x.maker y.maker) where
  by : (x.maker ≡ y.maker) ⊎ ((x.maker < y.maker) ⊎ (y.maker < x.maker)) → x.maker ≡ y.maker
  by (inl e) = e
  by (inr (inl l)) = absurd (true≢false (sym (first_below x y l) ∙ (neither _ _ h).0))
  by (inr (inr l)) = absurd (true≢false (sym (first_below y x l) ∙ (neither _ _ h).1))

listed_labelled : (a c : ℕ) (es : List Entry) (rest : List Made) (lists : Lists) → listed_all lists (entries_of (labelled a c es ++ rest)) ≡ listed_all (listed_all lists es) (entries_of rest)
listed_labelled a c [] rest lists = refl
listed_labelled a c (e ∷ es) rest lists = listed_labelled a (suc c) es rest (listed_if true lists e)

-- the tick of one thread, in the words of plays
pub in_order_is : (k : ℕ → Kind) (now n : ℕ) (es : List Entry) (w : World) (lists : Lists)
    → in_order k now es w lists ≡ record { world = world_after k now (numbered n es) w; lists = listed_all lists (entries_of (made_after k now (numbered n es) w)) }
in_order_is k now n [] w lists = refl
in_order_is k now n (e ∷ es) w lists =
    in_order_is k now (suc n) es (turn k now e.pos w).world (listed_all lists (turn k now e.pos w).made)
    ∙ (λ i. record { world = world_after k now (numbered (suc n) es) (turn k now e.pos w).world; lists = sym (listed_labelled n 0 (turn k now e.pos w).made (made_after k now (numbered (suc n) es) (turn k now e.pos w).world) lists) i })
