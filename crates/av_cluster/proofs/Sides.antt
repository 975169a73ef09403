-- The list of a territory has the sections with a corner.
use Rattle.std.proofs.Common.{◌≡◌, ◌↔◌, ℤ, pos, ◌+ℤ◌, ◌-ℤ◌, Bool, true, false, not, cond, ◌&&◌, [], ◌∷◌, ◌⊎◌, inl, inr, refl, sym, ap, ◌∙◌, subst, arith, IsTrue}
use Rattle.std.specs.Ordering.{int_eq}
use Rattle.std.specs.List.{Contains}
use Rattle.std.proofs.lemmas.Int.{ints}
use Rattle.std.proofs.lemmas.List.Elements.{Contains-append_cases, Contains-append_left, Contains-append_right, Contains-push, Contains-push_cases}
use Rattle.av_types.specs.Division.{divided}
use Rattle.av_types.specs.declared.position.Pos.{Pos}
use Rattle.av_types.specs.declared.position.SectionPos.{SectionPos}
use Rattle.av_types.specs.Positions.{section_of}
use Rattle.av_cells.specs.Grid.{Grid, is_here, cells_of}
use Rattle.av_play.specs.Parts.{InTerritory}
use Rattle.av_play.specs.Corners.{corner, HasCorner}
use Rattle.av_play.proofs.Corners.{by_corners}
use Rattle.av_play.proofs.Lists.{none_contained}
use Rattle.av_cluster.specs.Territory.{is_new, is_first_there, one_if, at_corner, at_column, at_side, territory_list}

module _ (g : Grid) (p : Pos) (s : SectionPos) where
  from_one : (b : Bool) (c : Bool) (t : SectionPos) → Contains (one_if (b && c) t) s → IsTrue c × (t ≡ s)
  from_one true true t m = by (Contains-push_cases [] t s m) where
    by : Contains [] s ⊎ (t ≡ s) → IsTrue true × (t ≡ s)
    by (inl n) = absurd (none_contained s n)
    by (inr e) = (refl, e)
  from_one true false t m = absurd (none_contained s m)
  from_one false c t m = absurd (none_contained s m)

  from_corner : (e d h : Bool) → Contains (at_corner g p e d h) s → HasCorner g p s
  from_corner e d h m =
      let r = from_one (is_first_there p e h d) (is_here (g (section_of (corner p e h d)))) (section_of (corner p e h d)) m in
      record { here = subst (λ t. IsTrue (is_here (g t))) r.1 r.0; east = e; high = h; south = d; lies = r.1 }

  from_column : (e d : Bool) → Contains (at_column g p e d) s → HasCorner g p s
  from_column e d m = by (Contains-append_cases (at_corner g p e d false) (at_corner g p e d true) s m) where
    by : Contains (at_corner g p e d false) s ⊎ Contains (at_corner g p e d true) s → HasCorner g p s
    by (inl n) = from_corner e d false n
    by (inr n) = from_corner e d true n

  from_side : (d : Bool) → Contains (at_side g p d) s → HasCorner g p s
  from_side d m = by (Contains-append_cases (at_column g p false d) (at_column g p true d) s m) where
    by : Contains (at_column g p false d) s ⊎ Contains (at_column g p true d) s → HasCorner g p s
    by (inl n) = from_column false d n
    by (inr n) = from_column true d n

  from_list : Contains (territory_list g p) s → HasCorner g p s
  from_list m = by (Contains-append_cases (at_side g p false) (at_side g p true) s m) where
    by : Contains (at_side g p false) s ⊎ Contains (at_side g p true) s → HasCorner g p s
    by (inl n) = from_side false n
    by (inr n) = from_side true n

  to_corner : (e d h : Bool) → is_first_there p e h d ≡ true → IsTrue (is_here (g s)) → section_of (corner p e h d) ≡ s → Contains (at_corner g p e d h) s
  to_corner e d h f l m =
      let k : is_here (g (section_of (corner p e h d))) ≡ true = subst (λ t. IsTrue (is_here (g t))) (sym m) l in
      subst (λ b. Contains (one_if b (section_of (corner p e h d))) s) (sym (ap (λ b. b && is_here (g (section_of (corner p e h d)))) f ∙ k))
      (subst (Contains (section_of (corner p e h d) ∷ [])) m (Contains-push [] (section_of (corner p e h d))))

  to_column : (e d h : Bool) → Contains (at_corner g p e d h) s → Contains (at_column g p e d) s
  to_column e d true m = Contains-append_right (at_corner g p e d false) (at_corner g p e d true) s m
  to_column e d false m = Contains-append_left (at_corner g p e d false) (at_corner g p e d true) s m

  to_side : (e d : Bool) → Contains (at_column g p e d) s → Contains (at_side g p d) s
  to_side true d m = Contains-append_right (at_column g p false d) (at_column g p true d) s m
  to_side false d m = Contains-append_left (at_column g p false d) (at_column g p true d) s m

  to_list : (d : Bool) → Contains (at_side g p d) s → Contains (territory_list g p) s
  to_list true m = Contains-append_right (at_side g p false) (at_side g p true) s m
  to_list false m = Contains-append_left (at_side g p false) (at_side g p true) s m

  -- of two ends in one section the start is taken
  taken : (b : Bool) (low high : ℤ) → (c : Bool) × (is_new c low high ≡ true) × (divided (cond c high low) 16 ≡ divided (cond b high low) 16)
  taken false low high = (false, refl, refl)
  taken true low high = by (int_eq (divided low 16) (divided high 16)) refl where
    by : (c : Bool) → int_eq (divided low 16) (divided high 16) ≡ c → (d : Bool) × (is_new d low high ≡ true) × (divided (cond d high low) 16 ≡ divided high 16)
    by true e = (false, refl, grind (arith, ints))
    by false e = (true, ap not e, refl)

  to_all : HasCorner g p s → Contains (territory_list g p) s
  to_all h =
      let x = taken h.east (p.x -ℤ pos 5) (p.x +ℤ pos 5) in
      let y = taken h.high (p.y -ℤ pos 2) (p.y +ℤ pos 1) in
      let z = taken h.south (p.z -ℤ pos 5) (p.z +ℤ pos 5) in
      let same : section_of (corner p x.0 y.0 z.0) ≡ section_of (corner p h.east h.high h.south) = λ i. record { x = x.2 i; y = y.2 i; z = z.2 i } in
      let new : is_first_there p x.0 y.0 z.0 ≡ true = all_three (is_new x.0 (p.x -ℤ pos 5) (p.x +ℤ pos 5)) (is_new y.0 (p.y -ℤ pos 2) (p.y +ℤ pos 1)) (is_new z.0 (p.z -ℤ pos 5) (p.z +ℤ pos 5)) x.1 y.1 z.1 in
      to_list z.0 (to_side x.0 z.0 (to_column x.0 z.0 y.0 (to_corner x.0 z.0 y.0 new h.here (same ∙ h.lies))))
    where
      all_three : (a b c : Bool) → a ≡ true → b ≡ true → c ≡ true → a && b && c ≡ true
      all_three true true true e f k = refl
      all_three true true false e f k = k
      all_three true false c e f k = f
      all_three false b c e f k = e

  pub territory_exact : Contains (territory_list g p) s ↔ InTerritory (cells_of g) p s
  territory_exact = let c = by_corners g p s in (λ m. c.1 (from_list m), λ t. to_all (c.0 t))
