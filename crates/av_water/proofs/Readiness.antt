-- Room and preparation for the blocks that a turn sets.
use Rattle.std.proofs.Common.{ℕ, ◌<◌, ◌≤◌, pos, ◌+ℤ◌, ◌-ℤ◌, ◌≤ℤ◌, List, arith}
use Rattle.std.proofs.lemmas.Int.{ints}
use Rattle.av_types.specs.declared.position.Pos.{Pos}
use Rattle.av_types.specs.declared.tick.Entry.{Entry}
use Rattle.av_types.specs.declared.water.Direction.{Direction}
use Rattle.av_types.specs.declared.water.Direction.TheVariants.{North, South, West, East}
use Rattle.av_cells.specs.Positions.{InReach, ForAround, step, below, above}
use Rattle.av_cells.specs.Wakes.{HasRoom}
use Rattle.av_cells.specs.World.{World}
use Rattle.av_water.specs.Ready.{IsReadyForTurn}
use Rattle.av_rules.specs.declared.kinds.Kinds.{Kinds}
use Rattle.av_rules.specs.Kinds.{kind_count}
use Rattle.av_rules.proofs.KindFacts.{are_kinds}

-- the block itself, one below it or beside it
record IsClose (p q : Pos) : Type 0 where
  west : (p.x -ℤ pos 1) ≤ℤ q.x
  east : q.x ≤ℤ (p.x +ℤ pos 1)
  low : (p.y -ℤ pos 1) ≤ℤ q.y
  high : q.y ≤ℤ p.y
  north : (p.z -ℤ pos 1) ≤ℤ q.z
  south : q.z ≤ℤ (p.z +ℤ pos 1)

close_reach : (p q r : Pos) → IsClose p q → (q.x -ℤ pos 1) ≤ℤ r.x → r.x ≤ℤ (q.x +ℤ pos 1) → (q.y -ℤ pos 1) ≤ℤ r.y → r.y ≤ℤ (q.y +ℤ pos 1) → (q.z -ℤ pos 1) ≤ℤ r.z → r.z ≤ℤ (q.z +ℤ pos 1) → InReach p r
close_reach p q r h a b c d e f =
    let g1 = h.west in let g2 = h.east in let g3 = h.low in let g4 = h.high in let g5 = h.north in let g6 = h.south in
    record { west = omega (arith, ints); east = omega (arith, ints); low = omega (arith, ints); high = omega (arith, ints); north = omega (arith, ints); south = omega (arith, ints) }

around_close : (p q : Pos) → IsClose p q → ForAround (InReach p) q
around_close p q h =
    record {
      itself = close_reach p q q h (omega (arith, ints)) (omega (arith, ints)) (omega (arith, ints)) (omega (arith, ints)) (omega (arith, ints)) (omega (arith, ints));
      beneath = close_reach p q (below q) h (omega (arith, ints)) (omega (arith, ints)) (omega (arith, ints)) (omega (arith, ints)) (omega (arith, ints)) (omega (arith, ints));
      overhead = close_reach p q (above q) h (omega (arith, ints)) (omega (arith, ints)) (omega (arith, ints)) (omega (arith, ints)) (omega (arith, ints)) (omega (arith, ints));
      beside = side;
    }
  where
    side : (d : Direction) → InReach p (step q d)
    side North = close_reach p q (step q North) h (omega (arith, ints)) (omega (arith, ints)) (omega (arith, ints)) (omega (arith, ints)) (omega (arith, ints)) (omega (arith, ints))
    side South = close_reach p q (step q South) h (omega (arith, ints)) (omega (arith, ints)) (omega (arith, ints)) (omega (arith, ints)) (omega (arith, ints)) (omega (arith, ints))
    side West = close_reach p q (step q West) h (omega (arith, ints)) (omega (arith, ints)) (omega (arith, ints)) (omega (arith, ints)) (omega (arith, ints)) (omega (arith, ints))
    side East = close_reach p q (step q East) h (omega (arith, ints)) (omega (arith, ints)) (omega (arith, ints)) (omega (arith, ints)) (omega (arith, ints)) (omega (arith, ints))

close_itself : (p : Pos) → IsClose p p
close_itself p = record { west = omega (arith, ints); east = omega (arith, ints); low = omega (arith, ints); high = omega (arith, ints); north = omega (arith, ints); south = omega (arith, ints) }

close_below : (p : Pos) → IsClose p (below p)
close_below p = record { west = omega (arith, ints); east = omega (arith, ints); low = omega (arith, ints); high = omega (arith, ints); north = omega (arith, ints); south = omega (arith, ints) }

close_side : (p : Pos) (d : Direction) → IsClose p (step p d)
close_side p North = record { west = omega (arith, ints); east = omega (arith, ints); low = omega (arith, ints); high = omega (arith, ints); north = omega (arith, ints); south = omega (arith, ints) }
close_side p South = record { west = omega (arith, ints); east = omega (arith, ints); low = omega (arith, ints); high = omega (arith, ints); north = omega (arith, ints); south = omega (arith, ints) }
close_side p West = record { west = omega (arith, ints); east = omega (arith, ints); low = omega (arith, ints); high = omega (arith, ints); north = omega (arith, ints); south = omega (arith, ints) }
close_side p East = record { west = omega (arith, ints); east = omega (arith, ints); low = omega (arith, ints); high = omega (arith, ints); north = omega (arith, ints); south = omega (arith, ints) }

-- what lies around a block that a turn may set lies in reach
pub around_itself : (p : Pos) → ForAround (InReach p) p
around_itself p = around_close p p (close_itself p)

pub around_below : (p : Pos) → ForAround (InReach p) (below p)
around_below p = around_close p (below p) (close_below p)

pub around_side : (p : Pos) (d : Direction) → ForAround (InReach p) (step p d)
around_side p d = around_close p (step p d) (close_side p d)

pub room_around : (count : ℕ) (w : World) (room : Pos → ℕ) (can : Pos → ℕ → Type 0) (made : List Entry) (p q : Pos) → IsReadyForTurn count w room can made p 7 → ForAround (InReach p) q → ForAround (HasRoom w room 7) q
room_around count w room can made p q r i =
    record { itself = r.has_room q i.itself; beneath = r.has_room (below q) i.beneath; overhead = r.has_room (above q) i.overhead; beside = λ d. r.has_room (step q d) (i.beside d) }

-- air and water have kinds
pub water_has_kind : (kinds : Kinds) (n : ℕ) → n < 10 → n < kind_count kinds
water_has_kind kinds n h = let a = (are_kinds kinds).at_least_ten in omega arith

-- room for more is room for less
pub ready_less : (count : ℕ) (w : World) (room : Pos → ℕ) (can : Pos → ℕ → Type 0) (made : List Entry) (p : Pos) (more adds : ℕ) → adds ≤ more → IsReadyForTurn count w room can made p more → IsReadyForTurn count w room can made p adds
ready_less count w room can made p more adds h r =
    record { loaded = r.loaded; kinds = r.kinds; has_room = λ q i l. let a = r.has_room q i l in omega arith; prepared = r.prepared; capacity = let a = r.capacity in omega arith }
