-- Chunks in their regions, and blocks in their sections.
use Rattle.std.proofs.Common.{◌≡◌, ◌∙◌, ℕ, ◌+◌, ◌*◌, ◌<◌, ◌/◌, ◌%◌, ℤ, pos, negsuc, ◌+ℤ◌, ◌*ℤ◌, ◌≤ℤ◌, refl, ap, sym, arith, ◌↔◌}
use Rattle.std.proofs.lemmas.Int.{ints}
use Rattle.av_types.specs.Division.{divided, remainder}
use Rattle.av_types.specs.Positions.{section_of, place_of, block_at, region_of, index_of, chunk_at, IsInLimits, IsChunkInLimits}
use Rattle.av_types.specs.declared.position.Pos.{Pos}
use Rattle.av_types.specs.declared.position.ChunkPos.{ChunkPos}
use Rattle.av_types.specs.declared.position.SectionPos.{SectionPos}
use Rattle.av_types.specs.declared.position.RegionPos.{RegionPos}

-- ---- division by 32

remainder_less : (z : ℤ) → remainder z 32 < 32
remainder_less (pos n) = omega arith
remainder_less (negsuc n) = omega arith

whole : (z : ℤ) → pos 32 *ℤ divided z 32 +ℤ pos (remainder z 32) ≡ z
whole (pos n) = omega (arith, ints)
whole (negsuc n) = omega (arith, ints)

quotient_is : (z m : ℤ) (k : ℕ) → z ≡ pos 32 *ℤ m +ℤ pos k → k < 32 → divided z 32 ≡ m
quotient_is (pos n) m k e h = omega (arith, ints)
quotient_is (negsuc n) m k e h = omega (arith, ints)

remainder_is : (z m : ℤ) (k : ℕ) → z ≡ pos 32 *ℤ m +ℤ pos k → k < 32 → remainder z 32 ≡ k
remainder_is (pos n) m k e h = omega (arith, ints)
remainder_is (negsuc n) m k e h = omega (arith, ints)

-- ---- chunks of a region

pub index_less : (c : ChunkPos) → index_of c < 1024
index_less c = let a = remainder_less c.x in let b = remainder_less c.z in omega arith

part_x : (a b : ℕ) → a < 32 → (a + 32 * b) % 32 ≡ a
part_x a b h = omega arith

part_z : (a b : ℕ) → a < 32 → (a + 32 * b) / 32 ≡ b
part_z a b h = omega arith

pub chunk_back : (c : ChunkPos) → chunk_at (region_of c) (index_of c) ≡ c
chunk_back c =
    let x = ap (λ n. pos 32 *ℤ divided c.x 32 +ℤ pos n) (part_x (remainder c.x 32) (remainder c.z 32) (remainder_less c.x)) ∙ whole c.x in
    let z = ap (λ n. pos 32 *ℤ divided c.z 32 +ℤ pos n) (part_z (remainder c.x 32) (remainder c.z 32) (remainder_less c.x)) ∙ whole c.z in
    λ i. record { x = x i; z = z i }

pub region_back : (r : RegionPos) (i : ℕ) → i < 1024 → region_of (chunk_at r i) ≡ r
region_back r i h =
    let x = quotient_is (pos 32 *ℤ r.x +ℤ pos (i % 32)) r.x (i % 32) refl (omega arith) in
    let z = quotient_is (pos 32 *ℤ r.z +ℤ pos (i / 32)) r.z (i / 32) refl (omega arith) in
    λ j. record { x = x j; z = z j }

pub index_back : (r : RegionPos) (i : ℕ) → i < 1024 → index_of (chunk_at r i) ≡ i
index_back r i h =
    let x = remainder_is (pos 32 *ℤ r.x +ℤ pos (i % 32)) r.x (i % 32) refl (omega arith) in
    let z = remainder_is (pos 32 *ℤ r.z +ℤ pos (i / 32)) r.z (i / 32) refl (omega arith) in
    let e : (i % 32) + 32 * (i / 32) ≡ i = omega arith in
    ap (λ n. n + 32 * remainder (pos 32 *ℤ r.z +ℤ pos (i / 32)) 32) x ∙ ap (λ n. (i % 32) + 32 * n) z ∙ e

low_chunk : (z : ℤ) → (negsuc 59999 ≤ℤ divided z 32) ↔ (negsuc 1919999 ≤ℤ z)
low_chunk (pos n) = (λ h. omega (arith, ints), λ h. omega (arith, ints))
low_chunk (negsuc n) = (λ h. omega (arith, ints), λ h. omega (arith, ints))

high_chunk : (z : ℤ) → (divided z 32 ≤ℤ pos 60000) ↔ (z ≤ℤ pos 1920031)
high_chunk (pos n) = (λ h. omega (arith, ints), λ h. omega (arith, ints))
high_chunk (negsuc n) = (λ h. omega (arith, ints), λ h. omega (arith, ints))

pub limits_of : (c : ChunkPos) → IsInLimits (region_of c) → IsChunkInLimits c
limits_of c h = record { west = (low_chunk c.x).0 h.west; east = (high_chunk c.x).0 h.east; north = (low_chunk c.z).0 h.north; south = (high_chunk c.z).0 h.south }

pub limits_from : (c : ChunkPos) → IsChunkInLimits c → IsInLimits (region_of c)
limits_from c h = record { west = (low_chunk c.x).1 h.west; east = (high_chunk c.x).1 h.east; north = (low_chunk c.z).1 h.north; south = (high_chunk c.z).1 h.south }

-- ---- division by 16

low_less : (x : ℤ) → remainder x 16 < 16
low_less (pos n) = omega arith
low_less (negsuc n) = omega arith

whole_16 : (z : ℤ) → pos 16 *ℤ divided z 16 +ℤ pos (remainder z 16) ≡ z
whole_16 (pos n) = omega (arith, ints)
whole_16 (negsuc n) = omega (arith, ints)

quotient_is_16 : (z m : ℤ) (k : ℕ) → z ≡ pos 16 *ℤ m +ℤ pos k → k < 16 → divided z 16 ≡ m
quotient_is_16 (pos n) m k e h = omega (arith, ints)
quotient_is_16 (negsuc n) m k e h = omega (arith, ints)

remainder_is_16 : (z m : ℤ) (k : ℕ) → z ≡ pos 16 *ℤ m +ℤ pos k → k < 16 → remainder z 16 ≡ k
remainder_is_16 (pos n) m k e h = omega (arith, ints)
remainder_is_16 (negsuc n) m k e h = omega (arith, ints)

-- ---- blocks of a section

pub place_less : (p : Pos) → place_of p < 4096
place_less p = let a = low_less p.x in let b = low_less p.y in let c = low_less p.z in omega arith

low_digit : (a b c : ℕ) → b < 16 → c < 16 → (256 * a + 16 * b + c) % 16 ≡ c
low_digit a b c g h = omega arith

high_digit : (a b c : ℕ) → b < 16 → c < 16 → (256 * a + 16 * b + c) / 256 ≡ a
high_digit a b c g h = omega arith

middle_digit : (a b c : ℕ) → b < 16 → c < 16 → (256 * a + 16 * b + c) / 16 % 16 ≡ b
middle_digit a b c g h = omega arith

pub block_back : (p : Pos) → block_at (section_of p) (place_of p) ≡ p
block_back p =
    let g = low_less p.z in let h = low_less p.x in
    let x = ap (λ n. pos 16 *ℤ divided p.x 16 +ℤ pos n) (low_digit (remainder p.y 16) (remainder p.z 16) (remainder p.x 16) g h) ∙ whole_16 p.x in
    let y = ap (λ n. pos 16 *ℤ divided p.y 16 +ℤ pos n) (high_digit (remainder p.y 16) (remainder p.z 16) (remainder p.x 16) g h) ∙ whole_16 p.y in
    let z = ap (λ n. pos 16 *ℤ divided p.z 16 +ℤ pos n) (middle_digit (remainder p.y 16) (remainder p.z 16) (remainder p.x 16) g h) ∙ whole_16 p.z in
    λ i. record { x = x i; y = y i; z = z i }

pub section_back : (s : SectionPos) (i : ℕ) → i < 4096 → section_of (block_at s i) ≡ s
section_back s i h =
    let x = quotient_is_16 (pos 16 *ℤ s.x +ℤ pos (i % 16)) s.x (i % 16) refl (omega arith) in
    let y = quotient_is_16 (pos 16 *ℤ s.y +ℤ pos (i / 256)) s.y (i / 256) refl (omega arith) in
    let z = quotient_is_16 (pos 16 *ℤ s.z +ℤ pos (i / 16 % 16)) s.z (i / 16 % 16) refl (omega arith) in
    λ j. record { x = x j; y = y j; z = z j }

pub place_back : (s : SectionPos) (i : ℕ) → i < 4096 → place_of (block_at s i) ≡ i
place_back s i h =
    let x = remainder_is_16 (pos 16 *ℤ s.x +ℤ pos (i % 16)) s.x (i % 16) refl (omega arith) in
    let y = remainder_is_16 (pos 16 *ℤ s.y +ℤ pos (i / 256)) s.y (i / 256) refl (omega arith) in
    let z = remainder_is_16 (pos 16 *ℤ s.z +ℤ pos (i / 16 % 16)) s.z (i / 16 % 16) refl (omega arith) in
    let e : 256 * (i / 256) + 16 * (i / 16 % 16) + i % 16 ≡ i = omega arith in
    (λ j. 256 * y j + 16 * z j + x j) ∙ e

-- a block is its section and its place there
pub same_block : (p q : Pos) → section_of p ≡ section_of q → place_of p ≡ place_of q → p ≡ q
same_block p q s e = sym (block_back p) ∙ (λ i. block_at (s i) (e i)) ∙ block_back q
