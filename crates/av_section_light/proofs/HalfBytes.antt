-- Where the light of a block stands among a chunk's half bytes.
use Rattle.std.proofs.Common.{◌≡◌, ℕ, ℤ, pos, negsuc, ◌+◌, ◌-◌, ◌*◌, ◌/◌, ◌%◌, ◌<◌, ◌+ℤ◌, ◌-ℤ◌, ◌*ℤ◌, ◌<ℤ◌, ◌≤ℤ◌, true, cond, List, length, get_or, drop, refl, sym, ap, ◌∙◌, arith, nat_abs}
use Rattle.std.specs.Prelude.{slice_range, ◌==◌}
use Rattle.std.proofs.lemmas.Int.{ints}
use Rattle.std.proofs.lemmas.List.{get_or-take, get_or-drop}
use Rattle.av_document.proofs.Numbers.{le_and_lt_from}
use Rattle.av_types.specs.Division.{divided, remainder}
use Rattle.av_types.specs.Positions.{chunk_of, place_of, is_block_of, section_index}
use Rattle.av_types.specs.declared.position.Pos.{Pos}
use Rattle.av_types.specs.declared.position.ChunkPos.{ChunkPos}
use Rattle.av_types.specs.declared.position.Height.{Height}
use Rattle.av_pack.specs.Nibbles.{nibble_at}
use Rattle.av_document.proofs.Positions.{coordinate-of, remainder-lt, place_of-lt}
use Rattle.av_flood.specs.Board.{light_of, light_at, own_block, HasLightSoFar}
use Rattle.av_flood.specs.declared.board.Flood.{Flood}

-- a coordinate from its section and its place there
swapped : (s : ℤ) (r : ℕ) → pos 16 *ℤ s +ℤ pos r ≡ s *ℤ pos 16 +ℤ pos r
swapped s r = omega (arith, ints)

whole : (x : ℤ) → pos 16 *ℤ divided x 16 +ℤ pos (remainder x 16) ≡ x
whole x = swapped (divided x 16) (remainder x 16) ∙ coordinate-of x

-- a section in the height
record IsInside (m : ℤ) (count : ℕ) (q : ℤ) : Type 0 where
  low : m ≤ℤ q
  high : q <ℤ (m +ℤ pos count)

inside_of : (h : Height) (y : ℤ) → is_block_of h y ≡ true → IsInside h.min_section h.sections (divided y 16)
inside_of h y e = let w = le_and_lt_from h.min_section (divided y 16) (divided y 16) (h.min_section +ℤ pos h.sections) e in record { low = w.0; high = w.1 }

offset_is : (m q : ℤ) → m ≤ℤ q → q ≡ m +ℤ pos (nat_abs (q -ℤ m))
offset_is m q low = on (q -ℤ m) refl where
  on : (z : ℤ) → q -ℤ m ≡ z → q ≡ m +ℤ pos (nat_abs z)
  on (pos n) e = omega (arith, ints)
  on (negsuc n) e = absurd (omega (arith, ints))

offset_less : (m q : ℤ) (count : ℕ) → m ≤ℤ q → q <ℤ (m +ℤ pos count) → nat_abs (q -ℤ m) < count
offset_less m q count low high = on (nat_abs (q -ℤ m)) (offset_is m q low) where
  on : (n : ℕ) → q ≡ m +ℤ pos n → n < count
  on n e = omega (arith, ints)

-- the parts of a half byte's number
part_x : (o y z x : ℕ) → y < 16 → z < 16 → x < 16 → (4096 * o + (256 * y + 16 * z + x)) % 16 ≡ x
part_x o y z x l m n = omega arith

part_y : (o y z x : ℕ) → y < 16 → z < 16 → x < 16 → (4096 * o + (256 * y + 16 * z + x)) / 256 ≡ 16 * o + y
part_y o y z x l m n = omega arith

part_z : (o y z x : ℕ) → y < 16 → z < 16 → x < 16 → (4096 * o + (256 * y + 16 * z + x)) / 16 % 16 ≡ z
part_z o y z x l m n = let e : (4096 * o + (256 * y + 16 * z + x)) / 16 ≡ 256 * o + 16 * y + z = omega arith in omega arith

lifted : (m : ℤ) (o r : ℕ) → pos 16 *ℤ m +ℤ pos (16 * o + r) ≡ pos 16 *ℤ (m +ℤ pos o) +ℤ pos r
lifted m o r = omega (arith, ints)

own_is : (c : ChunkPos) (h : Height) (p : Pos) → chunk_of p ≡ c → is_block_of h p.y ≡ true → own_block c h (4096 * section_index h (divided p.y 16) + place_of p) ≡ p
own_is c h p e i =
    let o = section_index h (divided p.y 16) in
    let ry = remainder p.y 16 in let rz = remainder p.z 16 in let rx = remainder p.x 16 in
    let yl = remainder-lt p.y in let zl = remainder-lt p.z in let xl = remainder-lt p.x in
    let x = ap (λ n. pos 16 *ℤ c.x +ℤ pos n) (part_x o ry rz rx yl zl xl) ∙ ap (λ d. pos 16 *ℤ d +ℤ pos rx) (sym (ap (λ d. d.x) e)) ∙ whole p.x in
    let z = ap (λ n. pos 16 *ℤ c.z +ℤ pos n) (part_z o ry rz rx yl zl xl) ∙ ap (λ d. pos 16 *ℤ d +ℤ pos rz) (sym (ap (λ d. d.z) e)) ∙ whole p.z in
    let y = ap (λ n. pos 16 *ℤ h.min_section +ℤ pos n) (part_y o ry rz rx yl zl xl) ∙ lifted h.min_section o ry
    ∙ ap (λ q. pos 16 *ℤ q +ℤ pos ry) (sym (offset_is h.min_section (divided p.y 16) (inside_of h p.y i).low)) ∙ whole p.y in
    λ j. record { x = x j; y = y j; z = z j }

-- a section's half bytes
in_section : (bytes : List ℕ) (o i : ℕ) → i < 4096 → nibble_at (slice_range bytes (2048 * o) (2048 * o + 2048)) i ≡ nibble_at bytes (4096 * o + i)
unfolding nibble_at
in_section bytes o i less =
    let read : get_or (slice_range bytes (2048 * o) (2048 * o + 2048)) (i / 2) 0 ≡ get_or bytes (2048 * o + i / 2) 0
    = get_or-take (2048 * o + 2048 - 2048 * o) (drop (2048 * o) bytes) (i / 2) 0 (omega arith) ∙ get_or-drop (2048 * o) bytes (i / 2) 0 in
    let half : 2048 * o + i / 2 ≡ (4096 * o + i) / 2 = omega arith in
    let side : i % 2 ≡ (4096 * o + i) % 2 = omega arith in
    ap (λ n. cond (i % 2 == 0) (n % 16) (n / 16)) read
    ∙ ap (λ k. cond (i % 2 == 0) (get_or bytes k 0 % 16) (get_or bytes k 0 / 16)) half
    ∙ ap (λ m. cond (m == 0) (get_or bytes ((4096 * o + i) / 2) 0 % 16) (get_or bytes ((4096 * o + i) / 2) 0 / 16)) side

-- the half byte of each block of the chunk is its light
pub bytes_are : (f : Flood) (c : ChunkPos) (h : Height) (bytes : List ℕ) → f.chunk ≡ c → f.height ≡ h → length bytes ≡ 2048 * h.sections → HasLightSoFar (light_at f) bytes
    → (p : Pos) → chunk_of p ≡ c → is_block_of h p.y ≡ true
    → nibble_at (slice_range bytes (2048 * section_index h (divided p.y 16)) (2048 * section_index h (divided p.y 16) + 2048)) (place_of p) ≡ light_of f p
bytes_are f c h bytes is_c is_h long halves p e i =
    let o = section_index h (divided p.y 16) in
    let n : place_of p < 4096 = place_of-lt p in
    let w = inside_of h p.y i in
    let less : o < h.sections = offset_less h.min_section (divided p.y 16) h.sections w.low w.high in
    in_section bytes o (place_of p) n
    ∙ halves.halves (4096 * o + place_of p) (index_less o (place_of p) (length bytes) h.sections long n less)
    ∙ ap (light_of f) ((λ j. own_block (is_c j) (is_h j) (4096 * o + place_of p)) ∙ own_is c h p e i)
  where
    index_less : (o i count sections : ℕ) → count ≡ 2048 * sections → i < 4096 → o < sections → 4096 * o + i < 2 * count
    index_less o i count sections long n less = omega arith
