-- The list of a territory is in order.
use Rattle.std.proofs.Common.{◌≡◌, ◌≤ℤ◌, zero, suc, ℤ, pos, ◌+ℤ◌, ◌-ℤ◌, Bool, true, false, cond, ◌&&◌, ◌||◌, List, [], ◌∷◌, ◌++◌, get_or, refl, sym, ap, ◌∙◌, arith, IsTrue, int_lt, All}
use Rattle.std.specs.Ordering.{int_eq}
use Rattle.std.specs.List.{AllPairs}
use Rattle.std.proofs.lemmas.Int.{ints}
use Rattle.std.proofs.lemmas.Bool.{true≢false, or_right}
use Rattle.std.proofs.lemmas.Bool.Decides.{Decides-int_eq}
use Rattle.std.proofs.lemmas.List.Elements.{All-append, All-cons, All-head, All-nil, All-tail}
use Rattle.std.proofs.lemmas.List.Kept.{AllPairs-cons}
use Rattle.av_types.specs.Division.{divided}
use Rattle.av_types.specs.declared.position.Pos.{Pos}
use Rattle.av_types.specs.declared.position.SectionPos.{SectionPos}
use Rattle.av_types.specs.Positions.{section_of}
use Rattle.av_cells.specs.Grid.{Grid, is_here}
use Rattle.av_cells.proofs.Sections.{in_sixteen}
use Rattle.av_play.specs.Corners.{corner}
use Rattle.av_cluster.specs.Territory.{before, AreRising, is_new, is_first_there, one_if, at_corner, at_column, at_side, territory_list}

pairs_append : {X : Type 0} (R : X → X → Type 0) (xs ys : List X) → AllPairs R xs → AllPairs R ys → All (λ x. All (R x) ys) xs → AllPairs R (xs ++ ys)
pairs_append R [] ys h k c = k
pairs_append R (x ∷ xs) ys h k c =
    AllPairs-cons R x (xs ++ ys) (All-append (R x) xs ys (λ n d l. h zero (suc n) d (omega arith) (omega arith)) (All-head (λ x. All (R x) ys) x xs c))
    (pairs_append R xs ys (λ m n d l u. h (suc m) (suc n) d (omega arith) (omega arith)) k (All-tail (λ x. All (R x) ys) x xs c))

each_one : (P : SectionPos → Type 0) (b : Bool) (s : SectionPos) → (b ≡ true → P s) → All P (one_if b s)
each_one P true s h = All-cons P s [] (h refl) (All-nil P)
each_one P false s h = All-nil P

pairs_one : (R : SectionPos → SectionPos → Type 0) (b : Bool) (s : SectionPos) → AllPairs R (one_if b s)
pairs_one R true s = λ m n d l u. absurd (omega arith)
pairs_one R false s = λ m n d l u. absurd (omega arith)

each_then : (P Q : SectionPos → Type 0) (xs : List SectionPos) → ((s : SectionPos) → P s → Q s) → All P xs → All Q xs
each_then P Q xs f h = λ n d l. f (get_or xs n d) (h n d l)

-- the end of a line that is new there lies in a later section than its start
later : (low high : ℤ) → low ≤ℤ high → is_new true low high ≡ true → int_lt (divided low 16) (divided high 16) ≡ true
later low high l h =
    let a = in_sixteen low in let b = in_sixteen high in
    let a0 = a.from in let a1 = a.to in let b0 = b.from in let b1 = b.to in
    let m : divided low 16 ≤ℤ divided high 16 = omega (arith, ints) in
    grind (arith, ints, m, h)

by_z : (s t : SectionPos) → int_lt s.z t.z ≡ true → IsTrue (before s t)
by_z s t h = ap (λ b. b || int_eq s.z t.z && (int_lt s.x t.x || int_eq s.x t.x && int_lt s.y t.y)) h

same : (a b : ℤ) → a ≡ b → int_eq a b ≡ true
same a b e = (Decides-int_eq a b).1 e

by_x : (s t : SectionPos) → s.z ≡ t.z → int_lt s.x t.x ≡ true → IsTrue (before s t)
by_x s t e h = or_right (int_lt s.z t.z) _ ((λ i. same s.z t.z e i && (h i || int_eq s.x t.x && int_lt s.y t.y)))

by_y : (s t : SectionPos) → s.z ≡ t.z → s.x ≡ t.x → int_lt s.y t.y ≡ true → IsTrue (before s t)
by_y s t e f h = or_right (int_lt s.z t.z) _ (λ i. same s.z t.z e i && or_right (int_lt s.x t.x) _ (λ j. same s.x t.x f j && h j) i)

module _ (g : Grid) (p : Pos) where
  abbrev along_x : Bool → ℤ
  along_x e = divided (cond e (p.x +ℤ pos 5) (p.x -ℤ pos 5)) 16

  abbrev along_z : Bool → ℤ
  along_z d = divided (cond d (p.z +ℤ pos 5) (p.z -ℤ pos 5)) 16

  -- what holds of the sections of two corners above each other
  record InColumn (e d : Bool) (s : SectionPos) : Type 0 where
    at_x : s.x ≡ along_x e
    at_z : s.z ≡ along_z d
    new_x : is_new e (p.x -ℤ pos 5) (p.x +ℤ pos 5) ≡ true
    new_z : is_new d (p.z -ℤ pos 5) (p.z +ℤ pos 5) ≡ true

  record InSide (d : Bool) (s : SectionPos) : Type 0 where
    side_z : s.z ≡ along_z d
    side_new : is_new d (p.z -ℤ pos 5) (p.z +ℤ pos 5) ≡ true

  three : (a b c h : Bool) → (a && b && c) && h ≡ true → (a ≡ true) × (b ≡ true) × (c ≡ true)
  three true true true h e = (refl, refl, refl)
  three true true false h e = absurd (true≢false (sym e))
  three true false c h e = absurd (true≢false (sym e))
  three false b c h e = absurd (true≢false (sym e))

  new_of : (e d h : Bool) → is_first_there p e h d && is_here (g (section_of (corner p e h d))) ≡ true
      → (is_new e (p.x -ℤ pos 5) (p.x +ℤ pos 5) ≡ true) × (is_new h (p.y -ℤ pos 2) (p.y +ℤ pos 1) ≡ true) × (is_new d (p.z -ℤ pos 5) (p.z +ℤ pos 5) ≡ true)
  new_of e d h t = three (is_new e (p.x -ℤ pos 5) (p.x +ℤ pos 5)) (is_new h (p.y -ℤ pos 2) (p.y +ℤ pos 1)) (is_new d (p.z -ℤ pos 5) (p.z +ℤ pos 5)) (is_here (g (section_of (corner p e h d)))) t

  corner_in : (e d h : Bool) → All (InColumn e d) (at_corner g p e d h)
  corner_in e d h = each_one (InColumn e d) _ (section_of (corner p e h d)) (λ t. let n = new_of e d h t in record { at_x = refl; at_z = refl; new_x = n.0; new_z = n.2 })

  column_in : (e d : Bool) → All (InColumn e d) (at_column g p e d)
  column_in e d = All-append (InColumn e d) (at_corner g p e d false) (at_corner g p e d true) (corner_in e d false) (corner_in e d true)

  column_of_side : (e d : Bool) → All (InSide d) (at_column g p e d)
  column_of_side e d = each_then (InColumn e d) (InSide d) (at_column g p e d) (λ s h. record { side_z = h.at_z; side_new = h.new_z }) (column_in e d)

  side_in : (d : Bool) → All (InSide d) (at_side g p d)
  side_in d = All-append (InSide d) (at_column g p false d) (at_column g p true d) (column_of_side false d) (column_of_side true d)

  column_rises : (e d : Bool) → AreRising (at_column g p e d)
  column_rises e d =
      pairs_append (λ s t. IsTrue (before s t)) (at_corner g p e d false) (at_corner g p e d true) (pairs_one (λ s t. IsTrue (before s t)) _ _) (pairs_one (λ s t. IsTrue (before s t)) _ _)
      (each_one (λ s. All (λ t. IsTrue (before s t)) (at_corner g p e d true)) _ (section_of (corner p e false d)) (λ b.
      each_one (λ t. IsTrue (before (section_of (corner p e false d)) t)) _ (section_of (corner p e true d)) (λ c.
      by_y (section_of (corner p e false d)) (section_of (corner p e true d)) refl refl (later (p.y -ℤ pos 2) (p.y +ℤ pos 1) (omega (arith, ints)) (new_of e d true c).1))))

  side_rises : (d : Bool) → AreRising (at_side g p d)
  side_rises d =
      pairs_append (λ s t. IsTrue (before s t)) (at_column g p false d) (at_column g p true d) (column_rises false d) (column_rises true d)
      (each_then (InColumn false d) (λ s. All (λ t. IsTrue (before s t)) (at_column g p true d)) (at_column g p false d)
      (λ s h. each_then (InColumn true d) (λ t. IsTrue (before s t)) (at_column g p true d)
      (λ t k. by_x s t (h.at_z ∙ sym k.at_z) ((λ i. int_lt (h.at_x i) (k.at_x i)) ∙ later (p.x -ℤ pos 5) (p.x +ℤ pos 5) (omega (arith, ints)) k.new_x)) (column_in true d))
      (column_in false d))

  pub territory_rises : AreRising (territory_list g p)
  territory_rises =
      pairs_append (λ s t. IsTrue (before s t)) (at_side g p false) (at_side g p true) (side_rises false) (side_rises true)
      (each_then (InSide false) (λ s. All (λ t. IsTrue (before s t)) (at_side g p true)) (at_side g p false)
      (λ s h. each_then (InSide true) (λ t. IsTrue (before s t)) (at_side g p true)
      (λ t k. by_z s t ((λ i. int_lt (h.side_z i) (k.side_z i)) ∙ later (p.z -ℤ pos 5) (p.z +ℤ pos 5) (omega (arith, ints)) k.side_new)) (side_in true))
      (side_in false))
