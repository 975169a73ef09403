-- The numbers that sections can have.
use Rattle.std.proofs.Common.{◌≡◌, inl, inr, ℕ, zero, suc, ◌+◌, ◌<◌, ◌≤◌, List, [], ◌∷◌, ℤ, pos, negsuc, ◌+ℤ◌, ◌<ℤ◌, ◌≤ℤ◌, Bool, true, false, ◌&&◌, ◌||◌, map, refl, sym, ap, ◌∙◌, subst, arith}
use Rattle.std.specs.Prelude.{int_lt, int_le, FitsSigned}
use Rattle.std.specs.Int.{w8}
use Rattle.std.specs.List.{list_any, range_with_len}
use Rattle.std.specs.Ordering.{int_eq}
use Rattle.std.proofs.lemmas.Int.{ints}
use Rattle.std.proofs.lemmas.Bool.{cases_eq, and_parts}
use Rattle.std.proofs.lemmas.Bool.Decides.{Decides-int_eq}
use Rattle.std.proofs.Math.Bool.{or-true}
use Rattle.std.proofs.lemmas.List.Folds.{list_any-append}
use Rattle.av_types.specs.declared.position.Height.{Height}
use Rattle.av_types.specs.Positions.{is_section_of}
use Rattle.av_document.specs.Layout.{below_zero, section_numbers}
use Rattle.av_document.proofs.Rows.{int_eq-refl}

any_below_zero : (n k : ℕ) → n < k → list_any (int_eq (negsuc n)) (below_zero k) ≡ true
any_below_zero n zero h = absurd (omega arith)
any_below_zero n (suc k) h = elim (cases_eq n k) [
  | inl e ↦ ap (λ b. b || list_any (int_eq (negsuc n)) (below_zero k)) (ap (λ m. int_eq (negsuc n) (negsuc m)) (sym e) ∙ int_eq-refl (negsuc n))
  | inr ne ↦ ap (λ b. int_eq (negsuc n) (negsuc k) || b) (any_below_zero n k (omega arith)) ∙ or-true (int_eq (negsuc n) (negsuc k))
]

any_range : (n a k : ℕ) → a ≤ n → n < a + k → list_any (int_eq (pos n)) (map pos (range_with_len a k)) ≡ true
any_range n a zero low high = absurd (omega arith)
any_range n a (suc k) low high = elim (cases_eq n a) [
  | inl e ↦ ap (λ b. b || list_any (int_eq (pos n)) (map pos (range_with_len (a + 1) k))) (ap (λ m. int_eq (pos n) (pos m)) (sym e) ∙ int_eq-refl (pos n))
  | inr ne ↦ ap (λ b. int_eq (pos n) (pos a) || b) (any_range n (a + 1) k (omega arith) (omega arith)) ∙ or-true (int_eq (pos n) (pos a))
]

-- a number of one byte is one that a section can have
pub byte_number : (y : ℤ) → FitsSigned w8 y → list_any (int_eq y) section_numbers ≡ true
byte_number (pos n) fits =
    list_any-append (int_eq (pos n)) (below_zero 128) (map pos (range_with_len 0 128))
    ∙ ap (λ b. list_any (int_eq (pos n)) (below_zero 128) || b) (any_range n 0 128 (omega arith) (omega (arith, fits.sfits)))
    ∙ or-true (list_any (int_eq (pos n)) (below_zero 128))
byte_number (negsuc n) fits =
    list_any-append (int_eq (negsuc n)) (below_zero 128) (map pos (range_with_len 0 128))
    ∙ ap (λ b. b || list_any (int_eq (negsuc n)) (map pos (range_with_len 0 128))) (any_below_zero n 128 (omega (arith, fits.sfits)))

pub lt_from : (a b : ℤ) → int_lt a b ≡ true → a <ℤ b
lt_from a b h = grind (arith, ints)

pub le_from : (a b : ℤ) → int_le a b ≡ true → a ≤ℤ b
le_from a b h = grind (arith, ints)

pub le_and_lt_from : (a b c d : ℤ) → int_le a b && int_lt c d ≡ true → (a ≤ℤ b) × (c <ℤ d)
le_and_lt_from a b c d h = grind (arith, ints)

fits_byte : (y : ℤ) → negsuc 127 ≤ℤ y → y ≤ℤ pos 127 → FitsSigned w8 y
fits_byte (pos n) low high = record { sfits = omega (arith, ints) }
fits_byte (negsuc n) low high = record { sfits = omega (arith, ints) }

-- a number of the height is one byte
pub height_fits : (h : Height) (y : ℤ) → is_section_of h y ≡ true → FitsSigned w8 y
height_fits h y inside =
    let parts = and_parts (int_le h.min_section y) (int_lt y (h.min_section +ℤ pos h.sections)) inside in
    let low : h.min_section ≤ℤ y = le_from h.min_section y parts.0 in
    let high : y <ℤ (h.min_section +ℤ pos h.sections) = lt_from y (h.min_section +ℤ pos h.sections) parts.1 in
    let lowest : negsuc 63 ≤ℤ h.min_section = h.lowest in
    let highest : (h.min_section +ℤ pos h.sections) ≤ℤ pos 64 = h.highest in
    fits_byte y (omega (arith, ints)) (omega (arith, ints))

-- so is one of the height
pub height_number : (h : Height) (y : ℤ) → is_section_of h y ≡ true → list_any (int_eq y) section_numbers ≡ true
height_number h y inside = byte_number y (height_fits h y inside)

-- numbers that rise, from above y on
abbrev pub rises_from : ℤ → List ℤ → Bool
rises_from y [] = true
rises_from y (z ∷ zs) = int_lt y z && rises_from z zs

pub section_numbers-rise : rises_from (negsuc 200) section_numbers ≡ true
section_numbers-rise = refl

not_same : (w z : ℤ) → w <ℤ z → int_eq w z ≡ false
not_same w z lt = by (int_eq w z) refl where
  by : (b : Bool) → int_eq w z ≡ b → b ≡ false
  by true e = let same : w ≡ z = (Decides-int_eq w z).0 e in absurd (let h : z <ℤ z = subst (λ v. v <ℤ z) same lt in omega (arith, ints, h))
  by false e = refl

-- a number is not among numbers that rise from it on
pub not_above : (w y : ℤ) (zs : List ℤ) → w ≤ℤ y → rises_from y zs ≡ true → list_any (int_eq w) zs ≡ false
not_above w y [] le up = refl
not_above w y (z ∷ zs) le up =
    let parts = and_parts (int_lt y z) (rises_from z zs) up in
    let step : y <ℤ z = lt_from y z parts.0 in
    let lt : w <ℤ z = omega (arith, ints) in
    let more : w ≤ℤ z = omega (arith, ints) in
    ap (λ b. b || list_any (int_eq w) zs) (not_same w z lt) ∙ not_above w z zs more parts.1
