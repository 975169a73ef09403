-- Fronts one step on.
use Rattle.std.proofs.Common.{◌≡◌, ℕ, zero, suc, ◌+◌, ◌-◌, ◌<◌, ◌&&◌, ◌||◌, Bool, true, false, nat_eq, refl, sym, ap, ◌∙◌, subst, arith}
use Rattle.std.proofs.lemmas.Bool.{and_parts, true≢false, and_from, eqb-true, eq-eqb}
use Rattle.av_types.specs.declared.position.Pos.{Pos}
use Rattle.av_types.specs.declared.water.Direction.{Direction}
use Rattle.av_types.specs.declared.water.Direction.TheVariants.{North, South, West, East}
use Rattle.av_cells.specs.declared.kind.Kind.{Kind}
use Rattle.av_cells.specs.Positions.{step}
use Rattle.av_cells.specs.Rule.{can_pass, can_drop, has_hole}
use Rattle.av_cells.specs.World.{World}
use Rattle.av_drop.specs.declared.board.Board.{Board}
use Rattle.av_drop.specs.Board.{spot, is_on, side_square, IsWithin, toward}
use Rattle.av_drop.specs.Fronts.{Leads, IsFront, IsNext}
use Rattle.av_drop.proofs.Spots.{side_spot, side_within, IsBeside, beside}
use Rattle.av_drop.proofs.Walks.{or_cases, side_holds}

pub drop_passes : (k : ℕ → Kind) (w : World) (m : ℕ) (q : Pos) → can_drop k w m q ≡ true → can_pass k w q ≡ true
unfolding can_drop
drop_passes k w zero q h = (and_parts (can_pass k w q) (has_hole k w q) h).0
drop_passes k w (suc m) q h = (and_parts (can_pass k w q) (can_drop k w m (step q North) || can_drop k w m (step q South) || can_drop k w m (step q West) || can_drop k w m (step q East)) h).0

-- a walk from a side goes on from the block
drops_by_side : (k : ℕ → Kind) (w : World) (m : ℕ) (q : Pos) (d : Direction) → can_pass k w q ≡ true → can_drop k w m (step q d) ≡ true → can_drop k w (suc m) q ≡ true
unfolding can_drop
drops_by_side k w m q d pass h =
    and_from (can_pass k w q) (can_drop k w m (step q North) || can_drop k w m (step q South) || can_drop k w m (step q West) || can_drop k w m (step q East)) pass
    (side_holds (λ e. can_drop k w m (step q e)) d h)

-- a side from which a walk goes on
record HasSide (k : ℕ → Kind) (w : World) (m : ℕ) (q : Pos) : Type 0 where
  side : Direction
  drops : can_drop k w m (step q side) ≡ true

side_of : (k : ℕ → Kind) (w : World) (m : ℕ) (q : Pos) → can_drop k w (suc m) q ≡ true → HasSide k w m q
unfolding can_drop
side_of k w m q h =
    let parts = and_parts (can_pass k w q) (can_drop k w m (step q North) || can_drop k w m (step q South) || can_drop k w m (step q West) || can_drop k w m (step q East)) h in
    or_cases (can_drop k w m (step q North) || can_drop k w m (step q South) || can_drop k w m (step q West)) (can_drop k w m (step q East)) (HasSide k w m q) parts.1
    (λ a. or_cases (can_drop k w m (step q North) || can_drop k w m (step q South)) (can_drop k w m (step q West)) (HasSide k w m q) a
    (λ b. or_cases (can_drop k w m (step q North)) (can_drop k w m (step q South)) (HasSide k w m q) b
    (λ c. record { side = North; drops = c })
    (λ c. record { side = South; drops = c }))
    (λ b. record { side = West; drops = b }))
    (λ a. record { side = East; drops = a })

-- a block of the new front, and the one of the old front from which a step leads to it
record ComesFrom (k : ℕ → Kind) (w : World) (p : Pos) (old : Board) (i r : ℕ) : Type 0 where
  square : ℕ
  side : Direction
  marked : is_on old square ≡ true
  within : IsWithin r i
  there : spot p i ≡ step (spot p square) side
  passes : can_pass k w (spot p i) ≡ true

comes_from : (k : ℕ → Kind) (w : World) (p s : Pos) (n r : ℕ) (old new : Board) (drops : Bool) (i : ℕ) → r + suc n ≡ 4 → IsFront k w p s n old → IsNext k w p old new drops → is_on new i ≡ true
    → ComesFrom k w p old i r
comes_from k w p s n r old new drops i few front next h =
    let parts = and_parts (is_on next.beside i) (can_pass k w (spot p i)) (sym (next.inside i) ∙ h) in
    let from = next.are_beside.from i parts.0 in
    let at : toward from.square from.side ≡ i = from.there in
    let b : IsBeside r from.square p from.side = beside r from.square p from.side (front.within from.square (r + 1) (omega (arith, few)) from.marked) in
    record {
      square = from.square;
      side = from.side;
      marked = from.marked;
      within = subst (IsWithin r) at b.within;
      there = ap (spot p) (sym at) ∙ b.there;
      passes = parts.1;
    }

-- the block beside one of the front is in the new front, if a walk may pass it
goes_on : (k : ℕ → Kind) (w : World) (p s : Pos) (n r : ℕ) (old new : Board) (drops : Bool) (i m : ℕ) (d : Direction) → r + suc n ≡ 4 → IsFront k w p s n old → IsNext k w p old new drops → is_on old i ≡ true
    → can_drop k w m (step (spot p i) d) ≡ true → Leads k w p m new
goes_on k w p s n r old new drops i m d few front next h drop =
    let b : IsBeside r i p d = beside r i p d (front.within i (r + 1) (omega (arith, few)) h) in
    let here : can_drop k w m (spot p (toward i d)) ≡ true = subst (λ q. can_drop k w m q ≡ true) (sym b.there) drop in
    record {
      square = toward i d;
      marked = next.inside (toward i d) ∙ and_from (is_on next.beside (toward i d)) (can_pass k w (spot p (toward i d))) (next.are_beside.to i d b.low b.high h) (drop_passes k w m (spot p (toward i d)) here);
      drops = here;
    }

next_front_suc : (k : ℕ → Kind) (w : World) (p s : Pos) (n r : ℕ) (old new : Board) (drops : Bool) → r + suc n ≡ 4 → IsFront k w p s n old → IsNext k w p old new drops → IsFront k w p s (suc n) new
next_front_suc k w p s n r old new drops few front next =
    record {
      within = λ i q e h. subst (λ x. IsWithin x i) (let f : r ≡ q = omega (arith, few, e) in f) (comes_from k w p s n r old new drops i few front next h).within;
      passes = λ i h. (comes_from k w p s n r old new drops i few front next h).passes;
      joins = λ i m h drop.
          let from = comes_from k w p s n r old new drops i few front next h in
          let there : can_drop k w m (step (spot p from.square) from.side) ≡ true = subst (λ q. can_drop k w m q ≡ true) from.there drop in
          subst (λ x. can_drop k w x s ≡ true) (let f : n + suc m ≡ suc n + m = omega arith in f)
          (front.joins from.square (suc m) from.marked (drops_by_side k w m (spot p from.square) from.side (front.passes from.square from.marked) there));
      leads = λ m h.
          let on : Leads k w p (suc m) old = front.leads (suc m) (subst (λ x. can_drop k w x s ≡ true) (let f : suc n + m ≡ n + suc m = omega arith in f) h) in
          let side : HasSide k w m (spot p on.square) = side_of k w m (spot p on.square) on.drops in
          goes_on k w p s n r old new drops on.square m side.side few front next on.marked side.drops;
    }

pub next_is_front : (k : ℕ → Kind) (w : World) (p s : Pos) (n : ℕ) (old new : Board) (drops : Bool) → n < 4 → IsFront k w p s n old → IsNext k w p old new drops → IsFront k w p s (n + 1) new
next_is_front k w p s n old new drops few front next =
    subst (λ m. IsFront k w p s m new) (let e : suc n ≡ n + 1 = omega arith in e) (next_front_suc k w p s n (3 - n) old new drops (omega (arith, few)) front next)

-- a front that drops has a block with a hole
pub drops_is : (k : ℕ → Kind) (w : World) (p s : Pos) (n : ℕ) (old new : Board) (drops : Bool) → IsFront k w p s n new → IsNext k w p old new drops → drops ≡ can_drop k w n s
drops_is k w p s n old new true front next =
    let found : Leads k w p 0 new = next.found refl in
    sym (subst (λ x. can_drop k w x s ≡ true) (let e : n + 0 ≡ n = omega arith in e) (front.joins found.square 0 found.marked found.drops))
drops_is k w p s n old new false front next = by (can_drop k w n s) refl where
  by : (b : Bool) → can_drop k w n s ≡ b → false ≡ b
  by false e = refl
  by true e =
      let on : Leads k w p 0 new = front.leads 0 (subst (λ x. can_drop k w x s ≡ true) (let f : n ≡ n + 0 = omega arith in f) e) in
      absurd (true≢false (sym on.drops ∙ next.missed refl on.square on.marked))

eq_square : (i j : ℕ) (b : Bool) (on : Bool) → on ≡ (nat_eq i j && b) → on ≡ true → (i ≡ j) × (b ≡ true)
eq_square i j b on e h = let parts = and_parts (nat_eq i j) b (sym e ∙ h) in (eqb-true i j parts.0, parts.1)

-- the front of no steps is the side itself, where a walk may pass that
pub first_is_front : (k : ℕ → Kind) (w : World) (p : Pos) (d : Direction) (b : Bool) (board : Board) → ((i : ℕ) → is_on board i ≡ (nat_eq i (side_square d) && b)) → b ≡ can_pass k w (step p d)
    → IsFront k w p (step p d) 0 board
first_is_front k w p d b board marks pass =
    record {
      within = λ i r e h. subst (IsWithin r) (sym (eq_square i (side_square d) b (is_on board i) (marks i) h).0) (subst (λ x. IsWithin x (side_square d)) (let f : 4 ≡ r = omega (arith, e) in f) (side_within d));
      passes = λ i h.
          let at = eq_square i (side_square d) b (is_on board i) (marks i) h in
          ap (λ j. can_pass k w (spot p j)) at.0 ∙ ap (can_pass k w) (side_spot p d) ∙ sym pass ∙ at.1;
      joins = λ i m h drop.
          let at = eq_square i (side_square d) b (is_on board i) (marks i) h in
          subst (λ n. can_drop k w n (step p d) ≡ true) (let e : m ≡ 0 + m = omega arith in e) (subst (λ q. can_drop k w m q ≡ true) (ap (spot p) at.0 ∙ side_spot p d) drop);
      leads = λ m h.
          let drop : can_drop k w m (step p d) ≡ true = subst (λ n. can_drop k w n (step p d) ≡ true) (let e : 0 + m ≡ m = omega arith in e) h in
          record {
            square = side_square d;
            marked = marks (side_square d) ∙ and_from (nat_eq (side_square d) (side_square d)) b (eq-eqb (side_square d) (side_square d) refl) (pass ∙ drop_passes k w m (step p d) drop);
            drops = subst (λ q. can_drop k w m q ≡ true) (sym (side_spot p d)) drop;
          };
    }
