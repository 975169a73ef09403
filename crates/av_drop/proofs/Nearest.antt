-- The sides from which the fewest steps come to a drop are the chosen ones.
use Rattle.std.proofs.Common.{◌≡◌, ℕ, zero, suc, ◌+◌, ◌-◌, ◌<◌, ◌≤◌, ◌&&◌, ◌||◌, min, Option, Some, None, refl, sym, ap, subst, ◌∙◌, arith, Bool, true, false, cond, nat_lt, nat_eq, not}
use Rattle.std.proofs.lemmas.Bool.{true≢false, cond-false}
use Rattle.std.proofs.lemmas.Bool.Decides.{nat_tests}
use Rattle.av_types.specs.declared.position.Pos.{Pos}
use Rattle.av_types.specs.declared.water.Direction.{Direction}
use Rattle.av_types.specs.declared.water.Direction.TheVariants.{North, South, West, East}
use Rattle.av_types.specs.declared.water.Wet.{Wet}
use Rattle.av_types.specs.declared.water.Wet.TheVariants.{Dry, Source, Flow, Falling}
use Rattle.av_types.specs.Water.{is_wet, is_source}
use Rattle.av_cells.specs.declared.kind.Kind.{Kind}
use Rattle.av_cells.specs.Positions.{step}
use Rattle.av_cells.specs.World.{World}
use Rattle.av_cells.specs.Rule.{can_enter, can_pass, can_drop, has_hole, found_or, found_below, opens_at, wet_at}
use Rattle.av_cells.specs.Turn.{drop_of, rank_of, rank_at, least_rank, is_chosen}
use Rattle.av_drop.specs.declared.board.Board.{Board}
use Rattle.av_drop.specs.declared.search.Sides.{Sides}
use Rattle.av_drop.specs.Sides.{has_side, AreWays, AreChosen}
use Rattle.av_drop.specs.Board.{is_on, side_square}
use Rattle.av_drop.specs.Fronts.{AreDropping, HaveNone, IsFront, IsNext}
use Rattle.av_drop.proofs.Ahead.{first_is_front, next_is_front, drops_is}

passes : (b : Bool) (w : Wet) → (b && not (is_wet w)) ≡ true → ((b || is_wet w) && not (is_source w)) ≡ true
passes true Dry h = refl
passes true Source h = absurd (true≢false (sym h))
passes true (Flow n) h = absurd (true≢false (sym h))
passes true Falling h = absurd (true≢false (sym h))
passes false w h = absurd (true≢false (sym h))

pub entered_passes : (k : ℕ → Kind) (w : World) (q : Pos) → can_enter k w q ≡ true → can_pass k w q ≡ true
unfolding can_enter can_pass
entered_passes k w q h = passes (opens_at k w q) (wet_at k w q) h

drops_here : (k : ℕ → Kind) (w : World) (q : Pos) → can_enter k w q ≡ true → can_drop k w 0 q ≡ has_hole k w q
unfolding can_drop
drops_here k w q h = ap (λ b. b && has_hole k w q) (entered_passes k w q h)

-- of a side that can be entered, a walk of no steps is a hole
pub down_is : (k : ℕ → Kind) (w : World) (p : Pos) (d : Direction) (s r : Bool) → s ≡ can_enter k w (step p d) → r ≡ (s && has_hole k w (step p d)) → r ≡ (s && can_drop k w 0 (step p d))
down_is k w p d true r e h = h ∙ sym (drops_here k w (step p d) (sym e))
down_is k w p d false r e h = h

found_none : (k : ℕ → Kind) (w : World) (q : Pos) (n : ℕ) → ((m : ℕ) → m < n → can_drop k w m q ≡ false) → found_below k w q n ≡ None
found_none k w q zero none = refl
found_none k w q (suc n) none = λ i. found_or (found_none k w q n (λ m l. none m (omega arith)) i) (none n (omega arith) i) n

still_above : (o : Option ℕ) (b : Bool) (m n : ℕ) → n ≤ rank_of o → n ≤ m → n ≤ 5 → n ≤ rank_of (found_or o b m)
still_above (Some x) b m n h l f = h
still_above None true m n h l f = l
still_above None false m n h l f = f

-- a rank from the first length that was not looked at
rank_above : (k : ℕ → Kind) (w : World) (q : Pos) (n i : ℕ) → n ≤ 5 → ((m : ℕ) → m < n → can_drop k w m q ≡ false) → n ≤ rank_of (found_below k w q (i + n))
rank_above k w q n zero few none = subst (λ x. n ≤ rank_of (found_below k w q x)) (let e : n ≡ 0 + n = omega arith in e) (subst (λ o. n ≤ rank_of o) (sym (found_none k w q n none)) few)
rank_above k w q n (suc i) few none = subst (λ x. n ≤ rank_of (found_below k w q x)) (let e : suc (i + n) ≡ suc i + n = omega arith in e) (still_above (found_below k w q (i + n)) (can_drop k w (i + n) q) (i + n) n (rank_above k w q n i few none) (omega arith) few)

found_kept : (k : ℕ → Kind) (w : World) (q : Pos) (x n i : ℕ) → found_below k w q n ≡ Some x → found_below k w q (i + n) ≡ Some x
found_kept k w q x n zero h = subst (λ y. found_below k w q y ≡ Some x) (let e : n ≡ 0 + n = omega arith in e) h
found_kept k w q x n (suc i) h = subst (λ y. found_below k w q y ≡ Some x) (let e : suc (i + n) ≡ suc i + n = omega arith in e) (λ j. found_or (found_kept k w q x n i h j) (can_drop k w (i + n) q) (i + n))

found_first : (k : ℕ → Kind) (w : World) (q : Pos) (n : ℕ) → ((m : ℕ) → m < n → can_drop k w m q ≡ false) → can_drop k w n q ≡ true → found_below k w q (suc n) ≡ Some n
found_first k w q n none here = λ i. found_or (found_none k w q n none i) (here i) n

least_rank_of : (k : ℕ → Kind) (w : World) (q : Pos) (n : ℕ) → n < 5 → ((m : ℕ) → m < n → can_drop k w m q ≡ false) → can_drop k w n q ≡ true → rank_of (drop_of k w q) ≡ n
unfolding drop_of
least_rank_of k w q n less none here =
    ap rank_of (subst (λ x. found_below k w q x ≡ Some n) (let e : 4 - n + suc n ≡ 5 = omega (arith, less) in e) (found_kept k w q n (suc n) (4 - n) (found_first k w q n none here)))

later_rank_of : (k : ℕ → Kind) (w : World) (q : Pos) (n : ℕ) → n ≤ 5 → ((m : ℕ) → m < n → can_drop k w m q ≡ false) → n ≤ rank_of (drop_of k w q)
unfolding drop_of
later_rank_of k w q n few none = subst (λ x. n ≤ rank_of (found_below k w q x)) (let e : 5 - n + n ≡ 5 = omega (arith, few) in e) (rank_above k w q n (5 - n) few none)

no_rank_of : (k : ℕ → Kind) (w : World) (q : Pos) → ((m : ℕ) → m < 5 → can_drop k w m q ≡ false) → rank_of (drop_of k w q) ≡ 5
unfolding drop_of
no_rank_of k w q none = ap rank_of (found_none k w q 5 none)

-- b says whether the rank is n, and else it is greater
record IsRanked (n : ℕ) (b : Bool) (r : ℕ) : Type 0 where
  is_least : b ≡ true → r ≡ n
  is_more : b ≡ false → n < r

ranked_way : (way drops : Bool) (n r : ℕ) → n < 6 → (way ≡ true → drops ≡ true → r ≡ n) → (way ≡ true → drops ≡ false → n < r) → IsRanked n (way && drops) (cond way r 6)
ranked_way true true n r few a b = record { is_least = λ h. a refl refl; is_more = λ h. absurd (true≢false h) }
ranked_way true false n r few a b = record { is_least = λ h. absurd (true≢false (sym h)); is_more = λ h. b refl refl }
ranked_way false drops n r few a b = record { is_least = λ h. absurd (true≢false (sym h)); is_more = λ h. few }

below_or_at : (P : ℕ → Type 0) (n : ℕ) → ((m : ℕ) → m < n → P m) → P n → (m : ℕ) → m < suc n → P m
below_or_at P n below here m less = by (nat_lt m n) refl where
  by : (b : Bool) → nat_lt m n ≡ b → P m
  by true e = below m (is_less e) where
    is_less : nat_lt m n ≡ true → m < n
    is_less e = grind (arith, nat_tests)
  by false e = subst P (let f : n ≡ m = is_same e in f) here where
    is_same : nat_lt m n ≡ false → n ≡ m
    is_same e = grind (arith, nat_tests)

-- a side with a walk of n steps or none so short
side_ranked : (k : ℕ → Kind) (w : World) (p : Pos) (ways found : Sides) (n : ℕ) (d : Direction) → n < 5 → AreWays k w p ways → HaveNone k w p ways n → AreDropping k w p ways n found
    → IsRanked n (has_side found d) (rank_at k w p d)
unfolding rank_at
side_ranked k w p ways found n d less are none drop =
    subst (λ b. IsRanked n b (cond (can_enter k w (step p d)) (rank_of (drop_of k w (step p d))) 6)) (sym (drop.at d ∙ ap (λ b. b && can_drop k w n (step p d)) (are.at d)))
    (ranked_way (can_enter k w (step p d)) (can_drop k w n (step p d)) n (rank_of (drop_of k w (step p d))) (omega arith)
    (λ way here. least_rank_of k w (step p d) n less (λ m l. none.at d m l (are.at d ∙ way)) here)
    (λ way gone.
    let more : suc n ≤ rank_of (drop_of k w (step p d)) = later_rank_of k w (step p d) (suc n) (omega arith) (below_or_at (λ m. can_drop k w m (step p d) ≡ false) n (λ m l. none.at d m l (are.at d ∙ way)) gone) in
    omega (arith, more)))

no_drop_ranked : (way : Bool) (r : ℕ) → (way ≡ true → r ≡ 5) → IsRanked 5 way (cond way r 6)
no_drop_ranked true r h = record { is_least = h; is_more = λ e. absurd (true≢false e) }
no_drop_ranked false r h = record { is_least = λ e. absurd (true≢false (sym e)); is_more = λ e. omega arith }

-- a side that can be entered, with no walk at all
way_ranked : (k : ℕ → Kind) (w : World) (p : Pos) (ways : Sides) (d : Direction) → AreWays k w p ways → HaveNone k w p ways 5 → IsRanked 5 (has_side ways d) (rank_at k w p d)
unfolding rank_at
way_ranked k w p ways d are none =
    subst (λ b. IsRanked 5 b (cond (can_enter k w (step p d)) (rank_of (drop_of k w (step p d))) 6)) (sym (are.at d))
    (no_drop_ranked (can_enter k w (step p d)) (rank_of (drop_of k w (step p d))) (λ way. no_rank_of k w (step p d) (λ m l. none.at d m l (are.at d ∙ way))))

least_is : (x : ℕ) (a b c d : Bool) (m n o r : ℕ) → IsRanked x a m → IsRanked x b n → IsRanked x c o → IsRanked x d r → (a || b || c || d) ≡ true → min (min m n) (min o r) ≡ x
least_is x a b c d m n o r ha hb hc hd h = by a b c d (low a m ha) (low b n hb) (low c o hc) (low d r hd) ha.is_least hb.is_least hc.is_least hd.is_least h where
  low : (b : Bool) (r : ℕ) → IsRanked x b r → x ≤ r
  low true r h = let e = h.is_least refl in omega arith
  low false r h = let e = h.is_more refl in omega arith

  by : (a b c d : Bool) → x ≤ m → x ≤ n → x ≤ o → x ≤ r → (a ≡ true → m ≡ x) → (b ≡ true → n ≡ x) → (c ≡ true → o ≡ x) → (d ≡ true → r ≡ x) → (a || b || c || d) ≡ true → min (min m n) (min o r) ≡ x
  by true b c d l1 l2 l3 l4 fa fb fc fd h = let e = fa refl in omega arith
  by false true c d l1 l2 l3 l4 fa fb fc fd h = let e = fb refl in omega arith
  by false false true d l1 l2 l3 l4 fa fb fc fd h = let e = fc refl in omega arith
  by false false false true l1 l2 l3 l4 fa fb fc fd h = let e = fd refl in omega arith
  by false false false false l1 l2 l3 l4 fa fb fc fd h = absurd (true≢false (sym h))

least_chosen : (r l n : ℕ) → n < 6 → r ≡ n → l ≡ n → (nat_lt r 6 && nat_eq r l) ≡ true
least_chosen r l n f h e = grind (arith, nat_tests)

more_not_chosen : (r l n : ℕ) → n < r → l ≡ n → (nat_lt r 6 && nat_eq r l) ≡ false
more_not_chosen r l n h e = grind (arith, nat_tests)

chosen_if : (n : ℕ) (b : Bool) (r l : ℕ) → n < 6 → IsRanked n b r → l ≡ n → b ≡ (nat_lt r 6 && nat_eq r l)
chosen_if n true r l f h e = sym (least_chosen r l n f (h.is_least refl) e)
chosen_if n false r l f h e = sym (more_not_chosen r l n (h.is_more refl) e)

by_ranks : (k : ℕ → Kind) (w : World) (p : Pos) (s : Sides) (n : ℕ) → n < 6 → ((d : Direction) → IsRanked n (has_side s d) (rank_at k w p d)) → (s.north || s.south || s.west || s.east) ≡ true → AreChosen k w p s
unfolding is_chosen least_rank
by_ranks k w p s n few ranked any =
    let least : min (min (rank_at k w p North) (rank_at k w p South)) (min (rank_at k w p West) (rank_at k w p East)) ≡ n =
    least_is n s.north s.south s.west s.east (rank_at k w p North) (rank_at k w p South) (rank_at k w p West) (rank_at k w p East) (ranked North) (ranked South) (ranked West) (ranked East) any in
    record { at = λ d. chosen_if n (has_side s d) (rank_at k w p d) _ few (ranked d) least }

-- the first drop that some side has
pub first_dropping_are_chosen : (k : ℕ → Kind) (w : World) (p : Pos) (ways found : Sides) (n : ℕ) → n < 5 → AreWays k w p ways → HaveNone k w p ways n → AreDropping k w p ways n found
    → (found.north || found.south || found.west || found.east) ≡ true → AreChosen k w p found
first_dropping_are_chosen k w p ways found n less are none drop any = by_ranks k w p found n (omega arith) (λ d. side_ranked k w p ways found n d less are none drop) any

-- where no side has a drop, all that can be entered are chosen
pub all_are_chosen : (k : ℕ → Kind) (w : World) (p : Pos) (ways : Sides) → AreWays k w p ways → HaveNone k w p ways 5 → (ways.north || ways.south || ways.west || ways.east) ≡ true → AreChosen k w p ways
all_are_chosen k w p ways are none any = by_ranks k w p ways 5 (omega arith) (λ d. way_ranked k w p ways d are none) any

none_of_four : (a b c d : Bool) → (a || b || c || d) ≡ false → (a ≡ false) × (b ≡ false) × (c ≡ false) × (d ≡ false)
none_of_four true b c d h = absurd (true≢false h)
none_of_four false true c d h = absurd (true≢false h)
none_of_four false false true d h = absurd (true≢false h)
none_of_four false false false true h = absurd (true≢false h)
none_of_four false false false false h = (refl, refl, refl, refl)

pub none_is_on : (s : Sides) (d : Direction) → (s.north || s.south || s.west || s.east) ≡ false → has_side s d ≡ false
none_is_on s North h = (none_of_four s.north s.south s.west s.east h).0
none_is_on s South h = (none_of_four s.north s.south s.west s.east h).1
none_is_on s West h = (none_of_four s.north s.south s.west s.east h).2
none_is_on s East h = (none_of_four s.north s.south s.west s.east h).3

six_not_chosen : (r l : ℕ) → r ≡ 6 → (nat_lt r 6 && nat_eq r l) ≡ false
six_not_chosen r l h = grind (arith, nat_tests)

shut_not_chosen : (k : ℕ → Kind) (w : World) (p : Pos) (d : Direction) → can_enter k w (step p d) ≡ false → is_chosen k w p d ≡ false
unfolding rank_at is_chosen
shut_not_chosen k w p d h = six_not_chosen (rank_at k w p d) (least_rank k w p) (cond-false (can_enter k w (step p d)) (rank_of (drop_of k w (step p d))) 6 h)

-- where no side can be entered, none is chosen
pub none_are_chosen : (k : ℕ → Kind) (w : World) (p : Pos) (ways : Sides) → AreWays k w p ways → (ways.north || ways.south || ways.west || ways.east) ≡ false → AreChosen k w p ways
none_are_chosen k w p ways are none =
    record { at = λ d. none_is_on ways d none ∙ sym (shut_not_chosen k w p d (sym (are.at d) ∙ none_is_on ways d none)) }

-- what was not found with n steps has no walk of at most n
pub still_none : (k : ℕ → Kind) (w : World) (p : Pos) (ways found : Sides) (n : ℕ) → HaveNone k w p ways n → AreDropping k w p ways n found → (found.north || found.south || found.west || found.east) ≡ false
    → HaveNone k w p ways (n + 1)
still_none k w p ways found n none drop not_one =
    record {
      at = λ d m less way.
          below_or_at (λ x. can_drop k w x (step p d) ≡ false) n (λ x l. none.at d x l way)
          (ap (λ b. b && can_drop k w n (step p d)) (sym way) ∙ sym (drop.at d) ∙ none_is_on found d not_one) m (omega (arith, less));
    }

pub none_below_one : (k : ℕ → Kind) (w : World) (p : Pos) (ways found : Sides) → AreDropping k w p ways 0 found → (found.north || found.south || found.west || found.east) ≡ false → HaveNone k w p ways 1
none_below_one k w p ways found drop not_one = still_none k w p ways found 0 (record { at = λ d m less way. absurd (omega (arith, less)) }) drop not_one

pub by_sides : (P : Direction → Type 0) → P North → P South → P West → P East → (d : Direction) → P d
by_sides P n s w e North = n
by_sides P n s w e South = s
by_sides P n s w e West = w
by_sides P n s w e East = e

-- the front of a side that can be entered, before the first step
pub first_side : (k : ℕ → Kind) (w : World) (p : Pos) (d : Direction) (b : Bool) (board : Board) → ((i : ℕ) → is_on board i ≡ (nat_eq i (side_square d) && b)) → b ≡ can_enter k w (step p d)
    → b ≡ true → IsFront k w p (step p d) 0 board
first_side k w p d b board marks way is = first_is_front k w p d b board marks (is ∙ sym (entered_passes k w (step p d) (sym way ∙ is)))

-- a side one step on
pub drops_side : (k : ℕ → Kind) (w : World) (p s : Pos) (n : ℕ) (old new : Board) (b drops : Bool) → b ≡ true → n < 4 → IsFront k w p s n old → IsNext k w p old new drops
    → drops ≡ (b && can_drop k w (n + 1) s)
drops_side k w p s n old new true drops way few front next = drops_is k w p s (n + 1) old new drops (next_is_front k w p s n old new drops few front next) next
drops_side k w p s n old new false drops way few front next = absurd (true≢false (sym way))

-- a side from which no walk of no steps drops
pub none_at_first : (k : ℕ → Kind) (w : World) (q : Pos) → can_drop k w 0 q ≡ false → (m : ℕ) → m < 0 + 1 → can_drop k w m q ≡ false
none_at_first k w q h m less = subst (λ x. can_drop k w x q ≡ false) (let e : 0 ≡ m = omega (arith, less) in e) h

pub none_at_next : (k : ℕ → Kind) (w : World) (q : Pos) (n : ℕ) → ((m : ℕ) → m < n + 1 → can_drop k w m q ≡ false) → can_drop k w (n + 1) q ≡ false → (m : ℕ) → m < n + 1 + 1 → can_drop k w m q ≡ false
none_at_next k w q n none here m less = below_or_at (λ x. can_drop k w x q ≡ false) (n + 1) none here m (omega (arith, less))
