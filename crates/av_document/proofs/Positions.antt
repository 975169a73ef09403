-- Blocks of a chunk by section and place.
use Rattle.std.proofs.Common.{◌≡◌, ℕ, ◌+◌, ◌-◌, ◌*◌, ◌/◌, ◌%◌, ◌<◌, ℤ, pos, negsuc, ◌+ℤ◌, ◌*ℤ◌, true, ◌&&◌, sym, ap, ◌∙◌, arith}
use Rattle.std.specs.Ordering.{int_eq}
use Rattle.std.proofs.lemmas.Int.{ints}
use Rattle.std.proofs.lemmas.Bool.{and_parts}
use Rattle.std.proofs.lemmas.Bool.Decides.{Decides-int_eq}
use Rattle.av_types.specs.Division.{divided, remainder}
use Rattle.av_types.specs.Positions.{is_section_of, is_block_of, place_of}
use Rattle.av_types.specs.declared.position.Pos.{Pos}
use Rattle.av_types.specs.declared.position.ChunkPos.{ChunkPos}
use Rattle.av_types.specs.declared.position.Height.{Height}
use Rattle.av_document.specs.Ticks.{lies_in}
use Rattle.av_document.specs.Layout.{block_at}
use Rattle.av_document.proofs.Rows.{int_eq-refl}

-- a coordinate of place r in section s
abbrev pub coordinate : ℤ → ℕ → ℤ
coordinate s r = s *ℤ pos 16 +ℤ pos r

below_zero_is : (n r : ℕ) → r < 16 → coordinate (negsuc n) r ≡ negsuc (n * 16 + (15 - r))
below_zero_is n r h = omega (arith, ints)

pub divided-coordinate : (s : ℤ) (r : ℕ) → r < 16 → divided (coordinate s r) 16 ≡ s
divided-coordinate (pos n) r h = let e : (n * 16 + r) / 16 ≡ n = omega arith in ap pos e
divided-coordinate (negsuc n) r h = let e : (n * 16 + (15 - r)) / 16 ≡ n = omega arith in ap (λ z. divided z 16) (below_zero_is n r h) ∙ ap negsuc e

pub remainder-coordinate : (s : ℤ) (r : ℕ) → r < 16 → remainder (coordinate s r) 16 ≡ r
remainder-coordinate (pos n) r h = omega arith
remainder-coordinate (negsuc n) r h = let e : 16 - 1 - (n * 16 + (15 - r)) % 16 ≡ r = omega arith in ap (λ z. remainder z 16) (below_zero_is n r h) ∙ e

pub coordinate-of : (z : ℤ) → coordinate (divided z 16) (remainder z 16) ≡ z
coordinate-of (pos n) = let e : n / 16 * 16 + n % 16 ≡ n = omega arith in ap pos e
coordinate-of (negsuc n) =
    let lt : 16 - 1 - n % 16 < 16 = omega arith in
    let e : n / 16 * 16 + (15 - (16 - 1 - n % 16)) ≡ n = omega arith in
    below_zero_is (n / 16) (16 - 1 - n % 16) lt ∙ ap negsuc e

pub remainder-lt : (z : ℤ) → remainder z 16 < 16
remainder-lt (pos n) = omega arith
remainder-lt (negsuc n) = omega arith

-- the parts of a place
pub place-x : (y z x : ℕ) → y < 16 → z < 16 → x < 16 → (256 * y + 16 * z + x) % 16 ≡ x
place-x y z x hy hz hx = omega arith

pub place-y : (y z x : ℕ) → y < 16 → z < 16 → x < 16 → (256 * y + 16 * z + x) / 256 ≡ y
place-y y z x hy hz hx = omega arith

pub place-z : (y z x : ℕ) → y < 16 → z < 16 → x < 16 → (256 * y + 16 * z + x) / 16 % 16 ≡ z
place-z y z x hy hz hx = omega arith

pub place-parts : (i : ℕ) → i < 4096 → 256 * (i / 256) + 16 * (i / 16 % 16) + i % 16 ≡ i
place-parts i h = omega arith

-- where a block of a section lies
pub section-of_block : (c : ChunkPos) (y : ℤ) (i : ℕ) → i < 4096 → divided (block_at c y i).y 16 ≡ y
section-of_block c y i h = divided-coordinate y (i / 256) (omega arith)

pub place-of_block : (c : ChunkPos) (y : ℤ) (i : ℕ) → i < 4096 → place_of (block_at c y i) ≡ i
place-of_block c y i h =
    let ry : remainder (coordinate y (i / 256)) 16 ≡ i / 256 = remainder-coordinate y (i / 256) (omega arith) in
    let rz : remainder (coordinate c.z (i / 16 % 16)) 16 ≡ i / 16 % 16 = remainder-coordinate c.z (i / 16 % 16) (omega arith) in
    let rx : remainder (coordinate c.x (i % 16)) 16 ≡ i % 16 = remainder-coordinate c.x (i % 16) (omega arith) in
    ap (λ r. 256 * r + 16 * remainder (coordinate c.z (i / 16 % 16)) 16 + remainder (coordinate c.x (i % 16)) 16) ry
    ∙ ap (λ r. 256 * (i / 256) + 16 * r + remainder (coordinate c.x (i % 16)) 16) rz
    ∙ ap (λ r. 256 * (i / 256) + 16 * (i / 16 % 16) + r) rx
    ∙ place-parts i h

-- a section of a height
pub section_inside : (h : Height) (k : ℕ) → k < h.sections → is_section_of h (h.min_section +ℤ pos k) ≡ true
section_inside h k low = grind (arith, ints)

-- what lies in a chunk
pub record IsWithin (c : ChunkPos) (h : Height) (p : Pos) : Type 0 where
  pub column_x : divided p.x 16 ≡ c.x
  pub column_z : divided p.z 16 ≡ c.z
  pub height : is_block_of h p.y ≡ true

pub within_from : (c : ChunkPos) (h : Height) (p : Pos) → lies_in c h p ≡ true → IsWithin c h p
within_from c h p e =
    let first = and_parts (int_eq (divided p.x 16) c.x && int_eq (divided p.z 16) c.z) (is_block_of h p.y) e in
    let second = and_parts (int_eq (divided p.x 16) c.x) (int_eq (divided p.z 16) c.z) first.0 in
    record { column_x = (Decides-int_eq (divided p.x 16) c.x).0 second.0; column_z = (Decides-int_eq (divided p.z 16) c.z).0 second.1; height = first.1 }

pub lies_in-block_at : (c : ChunkPos) (h : Height) (y : ℤ) (i : ℕ) → is_section_of h y ≡ true → i < 4096 → lies_in c h (block_at c y i) ≡ true
lies_in-block_at c h y i inside low =
    let x : divided (coordinate c.x (i % 16)) 16 ≡ c.x = divided-coordinate c.x (i % 16) (omega arith) in
    let z : divided (coordinate c.z (i / 16 % 16)) 16 ≡ c.z = divided-coordinate c.z (i / 16 % 16) (omega arith) in
    let up : divided (coordinate y (i / 256)) 16 ≡ y = divided-coordinate y (i / 256) (omega arith) in
    ap (λ v. int_eq v c.x && int_eq (divided (coordinate c.z (i / 16 % 16)) 16) c.z && is_section_of h (divided (coordinate y (i / 256)) 16)) x
    ∙ ap (λ b. b && int_eq (divided (coordinate c.z (i / 16 % 16)) 16) c.z && is_section_of h (divided (coordinate y (i / 256)) 16)) (int_eq-refl c.x)
    ∙ ap (λ v. int_eq v c.z && is_section_of h (divided (coordinate y (i / 256)) 16)) z
    ∙ ap (λ b. b && is_section_of h (divided (coordinate y (i / 256)) 16)) (int_eq-refl c.z)
    ∙ ap (is_section_of h) up
    ∙ inside

-- each block of a chunk is one of a section's
pub block_at-of : (c : ChunkPos) (h : Height) (p : Pos) → lies_in c h p ≡ true → block_at c (divided p.y 16) (place_of p) ≡ p
block_at-of c h p e =
    let w = within_from c h p e in
    let ry = remainder p.y 16 in
    let rz = remainder p.z 16 in
    let rx = remainder p.x 16 in
    let ex : coordinate c.x (place_of p % 16) ≡ p.x = ap (λ r. coordinate c.x r) (place-x (remainder p.y 16) (remainder p.z 16) (remainder p.x 16) (remainder-lt p.y) (remainder-lt p.z) (remainder-lt p.x)) ∙ ap (λ s. coordinate s (remainder p.x 16)) (sym w.column_x) ∙ coordinate-of p.x in
    let ey : coordinate (divided p.y 16) (place_of p / 256) ≡ p.y = ap (λ r. coordinate (divided p.y 16) r) (place-y (remainder p.y 16) (remainder p.z 16) (remainder p.x 16) (remainder-lt p.y) (remainder-lt p.z) (remainder-lt p.x)) ∙ coordinate-of p.y in
    let ez : coordinate c.z (place_of p / 16 % 16) ≡ p.z = ap (λ r. coordinate c.z r) (place-z (remainder p.y 16) (remainder p.z 16) (remainder p.x 16) (remainder-lt p.y) (remainder-lt p.z) (remainder-lt p.x)) ∙ ap (λ s. coordinate s (remainder p.z 16)) (sym w.column_z) ∙ coordinate-of p.z in
    λ i. record { x = ex i; y = ey i; z = ez i }

pub place_of-lt : (p : Pos) → place_of p < 4096
place_of-lt p = omega (arith, remainder-lt p.y, remainder-lt p.z, remainder-lt p.x)
