-- A section meets a reach exactly if it has a corner of it.
use Rattle.std.proofs.Common.{◌≡◌, ◌↔◌, ℤ, pos, ◌+ℤ◌, ◌-ℤ◌, ◌≤ℤ◌, Bool, true, false, cond, ◌⊎◌, inl, inr, refl, sym, ◌∙◌, subst, arith, IsTrue}
use Rattle.std.specs.Ordering.{int_eq}
use Rattle.std.proofs.lemmas.Int.{ints}
use Rattle.av_types.specs.Division.{divided}
use Rattle.av_types.specs.declared.position.Pos.{Pos}
use Rattle.av_types.specs.declared.position.SectionPos.{SectionPos}
use Rattle.av_types.specs.Positions.{section_of}
use Rattle.av_cells.specs.Positions.{InReach}
use Rattle.av_cells.specs.Grid.{Grid, is_here, cells_of}
use Rattle.av_cells.proofs.Sections.{in_sixteen}
use Rattle.av_play.specs.Parts.{InTerritory}
use Rattle.av_play.specs.Corners.{corner, HasCorner}

one_of_two : (a b c : ℤ) → a ≤ℤ b → b ≤ℤ c → c ≤ℤ (a +ℤ pos 1) → (a ≡ b) ⊎ (c ≡ b)
one_of_two a b c h i j = by (int_eq a b) refl where
  by : (d : Bool) → int_eq a b ≡ d → (a ≡ b) ⊎ (c ≡ b)
  by true e = inl (grind (arith, ints))
  by false e = inr (grind (arith, ints))

along : (low v high : ℤ) → low ≤ℤ v → v ≤ℤ high → high ≤ℤ (low +ℤ pos 15) → (divided low 16 ≡ divided v 16) ⊎ (divided high 16 ≡ divided v 16)
along low v high h i j =
    let a = in_sixteen low in let b = in_sixteen v in let c = in_sixteen high in
    let a0 = a.from in let a1 = a.to in let b0 = b.from in let b1 = b.to in let c0 = c.from in let c1 = c.to in
    one_of_two (divided low 16) (divided v 16) (divided high 16) (omega (arith, ints)) (omega (arith, ints)) (omega (arith, ints))

chosen_end : (low v high : ℤ) → (divided low 16 ≡ divided v 16) ⊎ (divided high 16 ≡ divided v 16) → (b : Bool) × (divided (cond b high low) 16 ≡ divided v 16)
chosen_end low v high (inl e) = (false, e)
chosen_end low v high (inr e) = (true, e)

pub meets_corner : (p q : Pos) → InReach p q → (east : Bool) × (high : Bool) × (south : Bool) × (section_of (corner p east high south) ≡ section_of q)
meets_corner p q r =
    let r0 = r.west in let r1 = r.east in let r2 = r.low in let r3 = r.high in let r4 = r.north in let r5 = r.south in
    let x = chosen_end (p.x -ℤ pos 5) q.x (p.x +ℤ pos 5) (along (p.x -ℤ pos 5) q.x (p.x +ℤ pos 5) r0 r1 (omega (arith, ints))) in
    let y = chosen_end (p.y -ℤ pos 2) q.y (p.y +ℤ pos 1) (along (p.y -ℤ pos 2) q.y (p.y +ℤ pos 1) r2 r3 (omega (arith, ints))) in
    let z = chosen_end (p.z -ℤ pos 5) q.z (p.z +ℤ pos 5) (along (p.z -ℤ pos 5) q.z (p.z +ℤ pos 5) r4 r5 (omega (arith, ints))) in
    (x.0, y.0, z.0, λ i. record { x = x.1 i; y = y.1 i; z = z.1 i })

corner_in_reach : (p : Pos) (east high south : Bool) → InReach p (corner p east high south)
corner_in_reach p east high south =
    record {
      west = x_low east;
      east = x_high east;
      low = y_low high;
      high = y_high high;
      north = z_low south;
      south = z_high south;
    }
  where
    x_low : (b : Bool) → (p.x -ℤ pos 5) ≤ℤ cond b (p.x +ℤ pos 5) (p.x -ℤ pos 5)
    x_low true = omega (arith, ints)
    x_low false = omega (arith, ints)

    x_high : (b : Bool) → cond b (p.x +ℤ pos 5) (p.x -ℤ pos 5) ≤ℤ (p.x +ℤ pos 5)
    x_high true = omega (arith, ints)
    x_high false = omega (arith, ints)

    y_low : (b : Bool) → (p.y -ℤ pos 2) ≤ℤ cond b (p.y +ℤ pos 1) (p.y -ℤ pos 2)
    y_low true = omega (arith, ints)
    y_low false = omega (arith, ints)

    y_high : (b : Bool) → cond b (p.y +ℤ pos 1) (p.y -ℤ pos 2) ≤ℤ (p.y +ℤ pos 1)
    y_high true = omega (arith, ints)
    y_high false = omega (arith, ints)

    z_low : (b : Bool) → (p.z -ℤ pos 5) ≤ℤ cond b (p.z +ℤ pos 5) (p.z -ℤ pos 5)
    z_low true = omega (arith, ints)
    z_low false = omega (arith, ints)

    z_high : (b : Bool) → cond b (p.z +ℤ pos 5) (p.z -ℤ pos 5) ≤ℤ (p.z +ℤ pos 5)
    z_high true = omega (arith, ints)
    z_high false = omega (arith, ints)

pub by_corners : (g : Grid) (p : Pos) (s : SectionPos) → InTerritory (cells_of g) p s ↔ HasCorner g p s
by_corners g p s = (there, back) where
  there : InTerritory (cells_of g) p s → HasCorner g p s
  there t =
      let m = meets_corner p t.block t.in_reach in
      record { here = subst (λ u. IsTrue (is_here (g u))) t.lies t.loaded; east = m.0; high = m.1; south = m.2; lies = m.3 ∙ t.lies }

  back : HasCorner g p s → InTerritory (cells_of g) p s
  back h =
      record { block = corner p h.east h.high h.south; in_reach = corner_in_reach p h.east h.high h.south; loaded = subst (λ u. IsTrue (is_here (g u))) (sym h.lies) h.here; lies = h.lies }
