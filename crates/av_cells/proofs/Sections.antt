-- The section of a block, and sections put over others.
use Rattle.std.proofs.Common.{◌≡◌, ℤ, pos, negsuc, Bool, true, false, cond, Option, Some, None, refl, arith}
use Rattle.std.proofs.lemmas.Int.{ints}
use Rattle.av_types.specs.Division.{divided}
use Rattle.av_types.specs.Positions.{section_of}
use Rattle.av_types.specs.declared.position.Pos.{Pos}
use Rattle.av_types.specs.declared.position.SectionPos.{SectionPos}
use Rattle.av_cells.specs.Grid.{Filling, is_here, IsInSixteen, LiesIn}

pub in_sixteen : (x : ℤ) → IsInSixteen (divided x 16) x
in_sixteen (pos n) = record { from = omega (arith, ints); to = omega (arith, ints) }
in_sixteen (negsuc n) = record { from = omega (arith, ints); to = omega (arith, ints) }

one_sixteen : (x s : ℤ) → IsInSixteen s x → s ≡ divided x 16
one_sixteen (pos n) s h = let a = h.from in let b = h.to in omega (arith, ints)
one_sixteen (negsuc n) s h = let a = h.from in let b = h.to in omega (arith, ints)

pub lies_in : (p : Pos) → LiesIn (section_of p) p
lies_in p = record { along_x = in_sixteen p.x; along_y = in_sixteen p.y; along_z = in_sixteen p.z }

pub lies_in_one : (s : SectionPos) (p : Pos) → LiesIn s p → s ≡ section_of p
lies_in_one s p h =
    let x = one_sixteen p.x s.x h.along_x in
    let y = one_sixteen p.y s.y h.along_y in
    let z = one_sixteen p.z s.z h.along_z in
    λ i. record { x = x i; y = y i; z = z i }

pub over_at : (b : Bool) (f : Option Filling) → cond (is_here (cond b f None)) (cond b f None) (cond b None f) ≡ f
over_at true (Some f) = refl
over_at true None = refl
over_at false (Some f) = refl
over_at false None = refl
