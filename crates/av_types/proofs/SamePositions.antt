-- The tests of positions tell what is equal.
use Rattle.std.proofs.Common.{◌≡◌, ◌∙◌, ℤ, true, false, ◌&&◌, refl, ap, subst}
use Rattle.std.specs.Ordering.{int_eq}
use Rattle.std.proofs.lemmas.Bool.{and_parts, and_from}
use Rattle.std.proofs.lemmas.Bool.Decides.{Decides-int_eq}
use Rattle.std.proofs.lemmas.Cmp.{int_eq_equiv}
use Rattle.av_types.specs.Positions.{same_pos, same_chunk, same_section}
use Rattle.av_types.specs.declared.position.Pos.{Pos}
use Rattle.av_types.specs.declared.position.ChunkPos.{ChunkPos}
use Rattle.av_types.specs.declared.position.SectionPos.{SectionPos}

own : (x : ℤ) → int_eq x x ≡ true
own x = (Decides-int_eq x x).1 refl

pub same_pos_is : (p q : Pos) → same_pos p q ≡ true → p ≡ q
same_pos_is p q h =
    let xy_z = and_parts (int_eq p.x q.x && int_eq p.y q.y) (int_eq p.z q.z) h in
    let x_y = and_parts (int_eq p.x q.x) (int_eq p.y q.y) xy_z.0 in
    let x = (Decides-int_eq p.x q.x).0 x_y.0 in
    let y = (Decides-int_eq p.y q.y).0 x_y.1 in
    let z = (Decides-int_eq p.z q.z).0 xy_z.1 in
    λ i. record { x = x i; y = y i; z = z i }

pub same_pos-refl : (p : Pos) → same_pos p p ≡ true
same_pos-refl p = and_from (int_eq p.x p.x && int_eq p.y p.y) (int_eq p.z p.z) (and_from (int_eq p.x p.x) (int_eq p.y p.y) (own p.x) (own p.y)) (own p.z)

pub same_pos_from : (p q : Pos) → p ≡ q → same_pos p q ≡ true
same_pos_from p q e = subst (λ r. same_pos p r ≡ true) e (same_pos-refl p)

pub same_pos-turned : (p q : Pos) → same_pos p q ≡ same_pos q p
same_pos-turned p q =
    ap (λ b. b && int_eq p.y q.y && int_eq p.z q.z) (int_eq_equiv.symm p.x q.x)
    ∙ ap (λ b. int_eq q.x p.x && b && int_eq p.z q.z) (int_eq_equiv.symm p.y q.y)
    ∙ ap (λ b. int_eq q.x p.x && int_eq q.y p.y && b) (int_eq_equiv.symm p.z q.z)

pub same_pos_back : (p q : Pos) → same_pos p q ≡ false → same_pos q p ≡ false
same_pos_back p q h = same_pos-turned q p ∙ h

pub same_chunk_is : (a b : ChunkPos) → same_chunk a b ≡ true → a ≡ b
same_chunk_is a b h =
    let parts = and_parts (int_eq a.x b.x) (int_eq a.z b.z) h in
    let x = (Decides-int_eq a.x b.x).0 parts.0 in
    let z = (Decides-int_eq a.z b.z).0 parts.1 in
    λ i. record { x = x i; z = z i }

pub same_chunk-refl : (c : ChunkPos) → same_chunk c c ≡ true
same_chunk-refl c = and_from (int_eq c.x c.x) (int_eq c.z c.z) (own c.x) (own c.z)

pub same_chunk_from : (a b : ChunkPos) → a ≡ b → same_chunk a b ≡ true
same_chunk_from a b e = subst (λ c. same_chunk a c ≡ true) e (same_chunk-refl a)

pub same_section_is : (s t : SectionPos) → same_section s t ≡ true → s ≡ t
same_section_is s t h =
    let xy_z = and_parts (int_eq s.x t.x && int_eq s.y t.y) (int_eq s.z t.z) h in
    let x_y = and_parts (int_eq s.x t.x) (int_eq s.y t.y) xy_z.0 in
    let x = (Decides-int_eq s.x t.x).0 x_y.0 in
    let y = (Decides-int_eq s.y t.y).0 x_y.1 in
    let z = (Decides-int_eq s.z t.z).0 xy_z.1 in
    λ i. record { x = x i; y = y i; z = z i }

pub same_section-refl : (s : SectionPos) → same_section s s ≡ true
same_section-refl s = and_from (int_eq s.x s.x && int_eq s.y s.y) (int_eq s.z s.z) (and_from (int_eq s.x s.x) (int_eq s.y s.y) (own s.x) (own s.y)) (own s.z)

pub same_section_from : (s t : SectionPos) → s ≡ t → same_section s t ≡ true
same_section_from s t e = subst (λ u. same_section s u ≡ true) e (same_section-refl s)
