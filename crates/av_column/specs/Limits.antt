-- Working definitions: where a block of a column lies. No public clause cites them.
use Rattle.std.specs.Prelude.{◌≡◌, ℕ, ℤ, pos, negsuc, ◌+ℤ◌, ◌≤ℤ◌, ◌<ℤ◌, int_le, int_lt, true, ◌&&◌}
use Rattle.std.proofs.Common.{arith}
use Rattle.std.proofs.lemmas.Bool.{and_parts}
use Rattle.std.proofs.lemmas.Int.{ints}
use Rattle.av_types.specs.declared.position.Pos.{Pos}
use Rattle.av_cells.specs.Positions.{IsNearOrigin}
use Rattle.av_column.specs.Columns.{is_in, is_there}

-- a coordinate is one of so many from the lowest
pub record IsIn (low : ℤ) (count : ℕ) (x : ℤ) : Type 0 where
  pub from : low ≤ℤ x
  pub to : x <ℤ (low +ℤ pos count)

pub record IsThere (bottom : ℤ) (layers : ℕ) (p : Pos) : Type 0 where
  pub along_x : IsIn (pos 0) 16 p.x
  pub along_z : IsIn (pos 0) 16 p.z
  pub along_y : IsIn bottom layers p.y

le_of : (a b : ℤ) → int_le a b ≡ true → a ≤ℤ b
le_of a b h = grind (arith, ints)

lt_of : (a b : ℤ) → int_lt a b ≡ true → a <ℤ b
lt_of a b h = grind (arith, ints)

is_in_of : (low : ℤ) (count : ℕ) (x : ℤ) → is_in low count x ≡ true → IsIn low count x
is_in_of low count x h =
    let parts = and_parts (int_le low x) (int_lt x (low +ℤ pos count)) h in
    record { from = le_of low x parts.0; to = lt_of x (low +ℤ pos count) parts.1 }

pub there_of : (bottom : ℤ) (layers : ℕ) (p : Pos) → is_there bottom layers p ≡ true → IsThere bottom layers p
there_of bottom layers p h =
    let a = and_parts (is_in (pos 0) 16 p.x && is_in (pos 0) 16 p.z) (is_in bottom layers p.y) h in
    let b = and_parts (is_in (pos 0) 16 p.x) (is_in (pos 0) 16 p.z) a.0 in
    record { along_x = is_in_of (pos 0) 16 p.x b.0; along_z = is_in_of (pos 0) 16 p.z b.1; along_y = is_in_of bottom layers p.y a.1 }

pub there_is_near : (bottom : ℤ) (layers : ℕ) → negsuc 1023 ≤ℤ bottom → (bottom +ℤ pos layers) ≤ℤ pos 1024 → (p : Pos) → is_there bottom layers p ≡ true → IsNearOrigin p
there_is_near bottom layers low high p h =
    let t = there_of bottom layers p h in
    let a = t.along_x.from in let b = t.along_x.to in let c = t.along_z.from in let d = t.along_z.to in let e = t.along_y.from in let f = t.along_y.to in
    record { x_low = omega (arith, ints); x_high = omega (arith, ints); y_low = omega (arith, ints); y_high = omega (arith, ints); z_low = omega (arith, ints); z_high = omega (arith, ints) }
