-- The drop of a block is the one that is computed.
use Rattle.std.proofs.Common.{◌≡◌, ℕ, ◌<◌, ◌≤◌, Option, Some, None, refl, ap, arith}
use Rattle.av_types.specs.declared.position.Pos.{Pos}
use Rattle.av_cells.specs.declared.kind.Kind.{Kind}
use Rattle.av_cells.specs.World.{World}
use Rattle.av_cells.specs.Rule.{HasWalk, IsDrop, found_below}
use Rattle.av_cells.specs.Turn.{drop_of}
use Rattle.av_drop.proofs.Walks.{found_is_drop}

not_less : (k : ℕ → Kind) (w : World) (p : Pos) (m n : ℕ) → HasWalk k w p n → ((j : ℕ) → j < m → ¬ HasWalk k w p j) → m ≤ n
not_less k w p m n walk least = let no : n < m → ⊥ = λ l. least n l walk in omega (arith, no)

pub one_drop : (k : ℕ → Kind) (w : World) (p : Pos) (a b : Option ℕ) → IsDrop k w p a → IsDrop k w p b → a ≡ b
one_drop k w p None None g h = refl
one_drop k w p None (Some n) g h = absurd (g n h.0 h.1)
one_drop k w p (Some m) None g h = absurd (h m g.0 g.1)
one_drop k w p (Some m) (Some n) g h =
    let a = not_less k w p m n h.1 g.2 in
    let b = not_less k w p n m g.1 h.2 in
    ap Some (let e : m ≡ n = omega arith in e)

pub drop_of_is : (k : ℕ → Kind) (w : World) (p : Pos) → IsDrop k w p (drop_of k w p)
unfolding drop_of
drop_of_is k w p = found_is_drop k w p (found_below k w p 5) 5 (omega arith) (omega arith) refl

pub drop_is : (k : ℕ → Kind) (w : World) (p : Pos) (a : Option ℕ) → IsDrop k w p a → a ≡ drop_of k w p
drop_is k w p a h = one_drop k w p a (drop_of k w p) h (drop_of_is k w p)
