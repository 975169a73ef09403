-- What a turn sees lies in its reach.
use Rattle.std.proofs.Common.{◌≡◌, ℕ, zero, suc, ◌+◌, ◌≤◌, pos, ◌+ℤ◌, ◌-ℤ◌, ◌≤ℤ◌, refl, arith}
use Rattle.std.proofs.lemmas.Int.{ints}
use Rattle.av_types.specs.declared.position.Pos.{Pos}
use Rattle.av_types.specs.declared.water.Direction.{Direction}
use Rattle.av_types.specs.declared.water.Direction.TheVariants.{North, South, West, East}
use Rattle.av_cells.specs.Positions.{InReach, step, below}
use Rattle.av_water.proofs.Readiness.{around_itself, around_below, around_side}
use Rattle.av_water.proofs.SameReads.{Sees, SeesTurn}

record IsNearBy (m : ℕ) (p q : Pos) : Type 0 where
  west : (p.x -ℤ pos m) ≤ℤ q.x
  east : q.x ≤ℤ (p.x +ℤ pos m)
  north : (p.z -ℤ pos m) ≤ℤ q.z
  south : q.z ≤ℤ (p.z +ℤ pos m)
  level : q.y ≡ p.y

near_reach : (m : ℕ) (p q : Pos) → m ≤ 5 → IsNearBy m p q → InReach p q
near_reach m p q l h =
    let a = h.west in let b = h.east in let c = h.north in let d = h.south in let e = h.level in
    record { west = omega (arith, ints); east = omega (arith, ints); low = omega (arith, ints); high = omega (arith, ints); north = omega (arith, ints); south = omega (arith, ints) }

near_below : (m : ℕ) (p q : Pos) → m ≤ 5 → IsNearBy m p q → InReach p (below q)
near_below m p q l h =
    let a = h.west in let b = h.east in let c = h.north in let d = h.south in let e = h.level in
    record { west = omega (arith, ints); east = omega (arith, ints); low = omega (arith, ints); high = omega (arith, ints); north = omega (arith, ints); south = omega (arith, ints) }

near_step : (m : ℕ) (p q : Pos) (d : Direction) → IsNearBy m p q → IsNearBy (m + 1) p (step q d)
near_step m p q North h = let a = h.west in let b = h.east in let c = h.north in let d = h.south in record { west = omega (arith, ints); east = omega (arith, ints); north = omega (arith, ints); south = omega (arith, ints); level = h.level }
near_step m p q South h = let a = h.west in let b = h.east in let c = h.north in let d = h.south in record { west = omega (arith, ints); east = omega (arith, ints); north = omega (arith, ints); south = omega (arith, ints); level = h.level }
near_step m p q West h = let a = h.west in let b = h.east in let c = h.north in let d = h.south in record { west = omega (arith, ints); east = omega (arith, ints); north = omega (arith, ints); south = omega (arith, ints); level = h.level }
near_step m p q East h = let a = h.west in let b = h.east in let c = h.north in let d = h.south in record { west = omega (arith, ints); east = omega (arith, ints); north = omega (arith, ints); south = omega (arith, ints); level = h.level }

sees : (n m : ℕ) (p q : Pos) → m + n ≤ 5 → IsNearBy m p q → Sees (InReach p) n q
sees zero m p q l h = (near_reach m p q (omega arith) h, near_below m p q (omega arith) h)
sees (suc n) m p q l h = (near_reach m p q (omega arith) h, λ d. sees n (m + 1) p (step q d) (omega arith) (near_step m p q d h))

near_itself : (p : Pos) → IsNearBy 0 p p
near_itself p = record { west = omega (arith, ints); east = omega (arith, ints); north = omega (arith, ints); south = omega (arith, ints); level = refl }

near_side : (p : Pos) (d : Direction) → IsNearBy 1 p (step p d)
near_side p d = near_step 0 p p d (near_itself p)

pub sees_turn : (p : Pos) → SeesTurn (InReach p) p
sees_turn p =
    record {
      nearby = around_itself p;
      sides = record { side = λ d. near_reach 1 p (step p d) (omega arith) (near_side p d); walks = λ d m l. sees m 1 p (step p d) (omega arith) (near_side p d); around_side = around_side p };
      around_below = around_below p;
    }
