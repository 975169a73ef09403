-- Neighbours on the board.
use Rattle.std.proofs.Common.{◌≡◌, ℕ, ℤ, pos, ◌+ℤ◌, ◌-ℤ◌, ◌+◌, ◌-◌, ◌<◌, ◌≤◌, ◌%◌, ◌/◌, refl, ap, arith}
use Rattle.std.proofs.lemmas.Int.{ints}
use Rattle.av_types.specs.declared.position.Pos.{Pos}
use Rattle.av_types.specs.declared.water.Direction.{Direction}
use Rattle.av_types.specs.declared.water.Direction.TheVariants.{North, South, West, East}
use Rattle.av_cells.specs.Positions.{step}
use Rattle.av_drop.specs.Board.{spot, side_square, IsWithin, toward}

pos_is : (a b c d e f : ℤ) → a ≡ d → b ≡ e → c ≡ f → (let l : Pos = record { x = a; y = b; z = c } in let r : Pos = record { x = d; y = e; z = f } in l ≡ r)
pos_is a b c d e f x y z = λ i. record { x = x i; y = y i; z = z i }

same_line : (x : ℤ) (a b : ℕ) → a ≡ b → x +ℤ pos a -ℤ pos 5 ≡ x +ℤ pos b -ℤ pos 5
same_line x a b e = ap (λ n. x +ℤ pos n -ℤ pos 5) e

one_less : (x : ℤ) (a b : ℕ) → b ≡ a + 1 → x +ℤ pos a -ℤ pos 5 ≡ x +ℤ pos b -ℤ pos 5 -ℤ pos 1
one_less x a b e = omega (arith, ints)

one_more : (x : ℤ) (a b : ℕ) → a ≡ b + 1 → x +ℤ pos a -ℤ pos 5 ≡ x +ℤ pos b -ℤ pos 5 +ℤ pos 1
one_more x a b e = omega (arith, ints)

pub north_spot : (p : Pos) (i : ℕ) → 11 ≤ i → spot p (i - 11) ≡ step (spot p i) North
north_spot p i h = pos_is _ _ _ _ _ _ (same_line p.x ((i - 11) % 11) (i % 11) (omega arith)) refl (one_less p.z ((i - 11) / 11) (i / 11) (omega arith))

pub south_spot : (p : Pos) (i : ℕ) → spot p (i + 11) ≡ step (spot p i) South
south_spot p i = pos_is _ _ _ _ _ _ (same_line p.x ((i + 11) % 11) (i % 11) (omega arith)) refl (one_more p.z ((i + 11) / 11) (i / 11) (omega arith))

pub west_spot : (p : Pos) (i : ℕ) → 1 ≤ i % 11 → spot p (i - 1) ≡ step (spot p i) West
west_spot p i h = pos_is _ _ _ _ _ _ (one_less p.x ((i - 1) % 11) (i % 11) (omega arith)) refl (same_line p.z ((i - 1) / 11) (i / 11) (omega arith))

pub east_spot : (p : Pos) (i : ℕ) → i % 11 ≤ 9 → spot p (i + 1) ≡ step (spot p i) East
east_spot p i h = pos_is _ _ _ _ _ _ (one_more p.x ((i + 1) % 11) (i % 11) (omega arith)) refl (same_line p.z ((i + 1) / 11) (i / 11) (omega arith))

-- the four sides of the middle
pub side_spot : (p : Pos) (d : Direction) → spot p (side_square d) ≡ step p d
side_spot p North = pos_is _ _ _ _ _ _ (omega (arith, ints)) refl (omega (arith, ints))
side_spot p South = pos_is _ _ _ _ _ _ (omega (arith, ints)) refl (omega (arith, ints))
side_spot p West = pos_is _ _ _ _ _ _ (omega (arith, ints)) refl (omega (arith, ints))
side_spot p East = pos_is _ _ _ _ _ _ (omega (arith, ints)) refl (omega (arith, ints))

pub side_within : (d : Direction) → IsWithin 4 (side_square d)
side_within North = record { south_east = omega arith; north_west = omega arith; north_east = omega arith; south_west = omega arith }
side_within South = record { south_east = omega arith; north_west = omega arith; north_east = omega arith; south_west = omega arith }
side_within West = record { south_east = omega arith; north_west = omega arith; north_east = omega arith; south_west = omega arith }
side_within East = record { south_east = omega arith; north_west = omega arith; north_east = omega arith; south_west = omega arith }

-- a square at most 4 - r steps from the middle, and the one beside it
pub record IsBeside (r i : ℕ) (p : Pos) (d : Direction) : Type 0 where
  pub within : IsWithin r (toward i d)
  pub low : 11 ≤ i
  pub high : i < 110
  pub there : spot p (toward i d) ≡ step (spot p i) d

pub beside : (r i : ℕ) (p : Pos) (d : Direction) → IsWithin (r + 1) i → IsBeside r i p d
beside r i p North h =
    let a = h.south_east in
    let b = h.north_west in
    let c = h.north_east in
    let e = h.south_west in
    record {
      within = record { south_east = omega arith; north_west = omega arith; north_east = omega arith; south_west = omega arith };
      low = omega arith;
      high = omega arith;
      there = north_spot p i (omega arith);
    }
beside r i p South h =
    let a = h.south_east in
    let b = h.north_west in
    let c = h.north_east in
    let e = h.south_west in
    record {
      within = record { south_east = omega arith; north_west = omega arith; north_east = omega arith; south_west = omega arith };
      low = omega arith;
      high = omega arith;
      there = south_spot p i;
    }
beside r i p West h =
    let a = h.south_east in
    let b = h.north_west in
    let c = h.north_east in
    let e = h.south_west in
    record {
      within = record { south_east = omega arith; north_west = omega arith; north_east = omega arith; south_west = omega arith };
      low = omega arith;
      high = omega arith;
      there = west_spot p i (omega arith);
    }
beside r i p East h =
    let a = h.south_east in
    let b = h.north_west in
    let c = h.north_east in
    let e = h.south_west in
    record {
      within = record { south_east = omega arith; north_west = omega arith; north_east = omega arith; south_west = omega arith };
      low = omega arith;
      high = omega arith;
      there = east_spot p i (omega arith);
    }
