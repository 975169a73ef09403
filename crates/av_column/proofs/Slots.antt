-- Each block has a place of its own in the list.
use Rattle.std.proofs.Common.{◌≡◌, ℕ, ◌+◌, ◌*◌, ◌<◌, ◌/◌, ◌%◌, ℤ, pos, negsuc, ◌+ℤ◌, ◌-ℤ◌, ◌≤ℤ◌, ◌<ℤ◌, nat_abs, int_le, int_lt, true, arith}
use Rattle.std.proofs.lemmas.Int.{ints}
use Rattle.std.proofs.lemmas.Bool.{and_from}
use Rattle.av_types.specs.declared.position.Pos.{Pos}
use Rattle.av_cells.specs.Positions.{IsInner}
use Rattle.av_column.specs.Columns.{is_there, slot}
use Rattle.av_column.specs.Limits.{IsThere, there_is_near}

pub slot_within : (bottom : ℤ) (layers : ℕ) (p : Pos) → IsThere bottom layers p → slot bottom p < 256 * layers
slot_within bottom layers p h =
    let a = h.along_x.from in let b = h.along_x.to in let c = h.along_z.from in let d = h.along_z.to in let e = h.along_y.from in let f = h.along_y.to in
    omega (arith, ints)

record IsSlots (x z y u w v : ℕ) : Type 0 where
  same_x : x ≡ u
  same_z : z ≡ w
  same_y : y ≡ v

slots : (x z y u w v : ℕ) → x < 16 → z < 16 → u < 16 → w < 16 → 256 * y + 16 * z + x ≡ 256 * v + 16 * w + u → IsSlots x z y u w v
slots x z y u w v a b c d e = record { same_x = omega arith; same_z = omega arith; same_y = omega arith }

abs_same : (a b : ℤ) → pos 0 ≤ℤ a → pos 0 ≤ℤ b → nat_abs a ≡ nat_abs b → a ≡ b
abs_same a b h g e = omega (arith, ints)

below_16 : (a : ℤ) → pos 0 ≤ℤ a → a <ℤ pos 16 → nat_abs a < 16
below_16 a h g = omega (arith, ints)

pub one_slot : (bottom : ℤ) (layers : ℕ) (p q : Pos) → IsThere bottom layers p → IsThere bottom layers q → slot bottom p ≡ slot bottom q → p ≡ q
one_slot bottom layers p q g h e =
    let s = slots (nat_abs p.x) (nat_abs p.z) (nat_abs (p.y -ℤ bottom)) (nat_abs q.x) (nat_abs q.z) (nat_abs (q.y -ℤ bottom))
    (below_16 p.x g.along_x.from g.along_x.to) (below_16 p.z g.along_z.from g.along_z.to) (below_16 q.x h.along_x.from h.along_x.to) (below_16 q.z h.along_z.from h.along_z.to) e in
    let x = abs_same p.x q.x g.along_x.from h.along_x.from s.same_x in
    let z = abs_same p.z q.z g.along_z.from h.along_z.from s.same_z in
    let y : p.y ≡ q.y = let a = g.along_y.from in let b = h.along_y.from in let c = s.same_y in omega (arith, ints) in
    λ i. record { x = x i; y = y i; z = z i }

-- the block at a place
abbrev pub block_at : ℤ → ℕ → Pos
block_at bottom i = record { x = pos (i % 16); y = bottom +ℤ pos (i / 256); z = pos (i / 16 % 16) }

pub slot_of_block : (bottom : ℤ) (i : ℕ) → slot bottom (block_at bottom i) ≡ i
slot_of_block bottom i = omega (arith, ints)

le_is : (a b : ℤ) → a ≤ℤ b → int_le a b ≡ true
le_is a b h = grind (arith, ints)

lt_is : (a b : ℤ) → a <ℤ b → int_lt a b ≡ true
lt_is a b h = grind (arith, ints)

pub block_is_there : (bottom : ℤ) (layers i : ℕ) → i < 256 * layers → is_there bottom layers (block_at bottom i) ≡ true
block_is_there bottom layers i h =
    and_from _ _
    (and_from _ _
    (and_from _ _ (le_is (pos 0) (pos (i % 16)) (omega (arith, ints))) (lt_is (pos (i % 16)) (pos 0 +ℤ pos 16) (omega (arith, ints))))
    (and_from _ _ (le_is (pos 0) (pos (i / 16 % 16)) (omega (arith, ints))) (lt_is (pos (i / 16 % 16)) (pos 0 +ℤ pos 16) (omega (arith, ints)))))
    (and_from _ _ (le_is bottom (bottom +ℤ pos (i / 256)) (omega (arith, ints))) (lt_is (bottom +ℤ pos (i / 256)) (bottom +ℤ pos layers) (omega (arith, ints))))

pub there_is_inner : (bottom : ℤ) (layers : ℕ) (p : Pos) → is_there bottom layers p ≡ true → negsuc 1023 ≤ℤ bottom → (bottom +ℤ pos layers) ≤ℤ pos 1024 → IsInner p
there_is_inner bottom layers p h low high =
    let t = there_is_near bottom layers low high p h in
    let a = t.x_low in let b = t.x_high in let c = t.y_low in let d = t.y_high in let e = t.z_low in let f = t.z_high in
    record { x_low = omega (arith, ints); x_high = omega (arith, ints); y_low = omega (arith, ints); y_high = omega (arith, ints); z_low = omega (arith, ints); z_high = omega (arith, ints) }
