-- Walks to a drop, and the test that computes whether there is one.
use Rattle.std.proofs.Common.{◌≡◌, ℕ, zero, suc, ◌<◌, ◌≤◌, ◌||◌, true, false, Bool, List, [], ◌∷◌, length, Option, Some, None, refl, sym, ap, ◌∙◌, subst, arith}
use Rattle.std.proofs.lemmas.Bool.{and_parts, true≢false, and_from}
use Rattle.av_types.specs.declared.position.Pos.{Pos}
use Rattle.av_types.specs.declared.water.Direction.{Direction}
use Rattle.av_types.specs.declared.water.Direction.TheVariants.{North, South, West, East}
use Rattle.av_cells.specs.declared.kind.Kind.{Kind}
use Rattle.av_cells.specs.Positions.{step}
use Rattle.av_cells.specs.World.{World}
use Rattle.av_cells.specs.Rule.{can_pass, has_hole, can_drop, IsWalk, HasWalk, IsDrop}
use Rattle.av_cells.specs.Rule.{found_below, found_or}

one_step_first : (k : ℕ → Kind) (w : World) (p : Pos) (n : ℕ) (d : Direction) → can_pass k w p ≡ true → HasWalk k w (step p d) n → HasWalk k w p (suc n)
one_step_first k w p n d pass r =
    record {
      blocks = step p d ∷ r.blocks;
      walk = record { long = ap suc r.walk.long; beside = ((d, refl), r.walk.beside); passes = (pass, r.walk.passes); drops = r.walk.drops };
    }

pub or_cases : (a b : Bool) (P : Type 0) → (a || b) ≡ true → (a ≡ true → P) → (b ≡ true → P) → P
or_cases true b P h f g = f refl
or_cases false b P h f g = g h

pub walk_of : (k : ℕ → Kind) (w : World) (n : ℕ) (p : Pos) → can_drop k w n p ≡ true → HasWalk k w p n
unfolding can_drop
walk_of k w zero p h =
    let parts = and_parts (can_pass k w p) (has_hole k w p) h in
    record { blocks = []; walk = record { long = refl; beside = tt; passes = parts.0; drops = parts.1 } }
walk_of k w (suc n) p h =
    let parts = and_parts (can_pass k w p) (can_drop k w n (step p North) || can_drop k w n (step p South) || can_drop k w n (step p West) || can_drop k w n (step p East)) h in
    or_cases (can_drop k w n (step p North) || can_drop k w n (step p South) || can_drop k w n (step p West)) (can_drop k w n (step p East)) (HasWalk k w p (suc n)) parts.1
    (λ a. or_cases (can_drop k w n (step p North) || can_drop k w n (step p South)) (can_drop k w n (step p West)) (HasWalk k w p (suc n)) a
    (λ b. or_cases (can_drop k w n (step p North)) (can_drop k w n (step p South)) (HasWalk k w p (suc n)) b
    (λ c. one_step_first k w p n North parts.0 (walk_of k w n (step p North) c))
    (λ c. one_step_first k w p n South parts.0 (walk_of k w n (step p South) c)))
    (λ b. one_step_first k w p n West parts.0 (walk_of k w n (step p West) b)))
    (λ a. one_step_first k w p n East parts.0 (walk_of k w n (step p East) a))

pub side_holds : (f : Direction → Bool) (d : Direction) → f d ≡ true → (f North || f South || f West || f East) ≡ true
side_holds f North h = rw h (or_true (f South) (f West) (f East)) where
  or_true : (b c d : Bool) → (true || b || c || d) ≡ true
  or_true b c d = refl
side_holds f South h = south (f North) (f South) (f West) (f East) h where
  south : (a b c d : Bool) → b ≡ true → (a || b || c || d) ≡ true
  south true b c d h = refl
  south false true c d h = refl
  south false false c d h = absurd (true≢false (sym h))
side_holds f West h = west (f North) (f South) (f West) (f East) h where
  west : (a b c d : Bool) → c ≡ true → (a || b || c || d) ≡ true
  west true b c d h = refl
  west false true c d h = refl
  west false false true d h = refl
  west false false false d h = absurd (true≢false (sym h))
side_holds f East h = east (f North) (f South) (f West) (f East) h where
  east : (a b c d : Bool) → d ≡ true → (a || b || c || d) ≡ true
  east true b c d h = refl
  east false true c d h = refl
  east false false true d h = refl
  east false false false true h = refl
  east false false false false h = absurd (true≢false (sym h))

drop_along : (k : ℕ → Kind) (w : World) (n : ℕ) (p : Pos) (blocks : List Pos) → IsWalk k w p n blocks → can_drop k w n p ≡ true
unfolding can_drop
drop_along k w zero p [] walk = and_from (can_pass k w p) (has_hole k w p) walk.passes walk.drops
drop_along k w zero p (q ∷ qs) walk = let l = walk.long in absurd (omega arith)
drop_along k w (suc n) p [] walk = let l = walk.long in absurd (omega arith)
drop_along k w (suc n) p (q ∷ qs) walk =
    let d : Direction = walk.beside.0.0 in
    let rest : IsWalk k w q n qs = record { long = let l : suc (length qs) ≡ suc n = walk.long in omega arith; beside = walk.beside.1; passes = walk.passes.1; drops = walk.drops } in
    and_from (can_pass k w p) (can_drop k w n (step p North) || can_drop k w n (step p South) || can_drop k w n (step p West) || can_drop k w n (step p East)) walk.passes.0
    (side_holds (λ e. can_drop k w n (step p e)) d (subst (λ r. can_drop k w n r ≡ true) walk.beside.0.1 (drop_along k w n q qs rest)))

pub drop_of_walk : (k : ℕ → Kind) (w : World) (n : ℕ) (p : Pos) → HasWalk k w p n → can_drop k w n p ≡ true
drop_of_walk k w n p h = drop_along k w n p h.blocks h.walk

-- a walk of n steps, and none of fewer
pub first_is_drop : (k : ℕ → Kind) (w : World) (p : Pos) (n : ℕ) → n < 5 → can_drop k w n p ≡ true → ((m : ℕ) → m < n → can_drop k w m p ≡ false) → IsDrop k w p (Some n)
first_is_drop k w p n less here none = (less, walk_of k w n p here, λ m l walk. true≢false (sym (drop_of_walk k w m p walk) ∙ none m l))

pub none_is_drop : (k : ℕ → Kind) (w : World) (p : Pos) → ((m : ℕ) → m < 5 → can_drop k w m p ≡ false) → IsDrop k w p None
none_is_drop k w p none = λ m l walk. true≢false (sym (drop_of_walk k w m p walk) ∙ none m l)

-- the least length of a walk, of those below a bound
abbrev IsDropBelow : (ℕ → Kind) → World → Pos → ℕ → Option ℕ → Type 0
IsDropBelow k w p bound None = (n : ℕ) → n < bound → ¬ HasWalk k w p n
IsDropBelow k w p bound (Some n) = (n < bound) × HasWalk k w p n × ((m : ℕ) → m < n → ¬ HasWalk k w p m)

found_next : (k : ℕ → Kind) (w : World) (p : Pos) (n : ℕ) (o : Option ℕ) (b : Bool) → can_drop k w n p ≡ b → IsDropBelow k w p n o → IsDropBelow k w p (suc n) (found_or o b n)
found_next k w p n (Some m) b e h = (let l = h.0 in omega arith, h.1, h.2)
found_next k w p n None true e h = (omega arith, walk_of k w n p e, h)
found_next k w p n None false e h =
    λ m less walk. nat_cases m n less (λ l. h m l walk) (λ s. true≢false (sym (drop_of_walk k w n p (subst (HasWalk k w p) s walk)) ∙ e))
  where
    nat_cases : (m n : ℕ) → m < suc n → (m < n → ⊥) → (m ≡ n → ⊥) → ⊥
    nat_cases m n l f g = g (below_or m n l f) where
      below_or : (m n : ℕ) → m < suc n → (m < n → ⊥) → m ≡ n
      below_or m n l f = omega (arith, f)

found_is_below : (k : ℕ → Kind) (w : World) (p : Pos) (n : ℕ) → IsDropBelow k w p n (found_below k w p n)
found_is_below k w p zero = λ n less walk. absurd (omega arith)
found_is_below k w p (suc n) = found_next k w p n (found_below k w p n) (can_drop k w n p) refl (found_is_below k w p n)

is_drop : (k : ℕ → Kind) (w : World) (p : Pos) (o : Option ℕ) → IsDropBelow k w p 5 o → IsDrop k w p o
is_drop k w p None h = h
is_drop k w p (Some n) h = h

pub found_is_drop : (k : ℕ → Kind) (w : World) (p : Pos) (o : Option ℕ) (n : ℕ) → n ≤ 5 → 5 ≤ n → o ≡ found_below k w p n → IsDrop k w p o
found_is_drop k w p o n most least e =
    subst (IsDrop k w p) (sym e) (is_drop k w p (found_below k w p n) (subst (λ b. IsDropBelow k w p b (found_below k w p n)) (let s : n ≡ 5 = omega arith in s) (found_is_below k w p n)))
