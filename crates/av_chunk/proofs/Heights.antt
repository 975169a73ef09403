-- The tests of a height, as the program makes them.
use Rattle.std.proofs.Common.{◌≡◌, ℕ, ℤ, Bool, true, false, true≢false, refl, sym, ◌↔◌, IsTrue, arith, ◌&&◌, ◌≤ℤ◌, ◌<ℤ◌, pos, negsuc, ◌<◌, ◌-ℤ◌, ◌+ℤ◌, nat_abs}
use Rattle.std.specs.Prelude.{int_le, int_lt}
use Rattle.std.proofs.lemmas.Int.{ints}
use Rattle.std.proofs.lemmas.Bool.{false_from_ne_true}
use Rattle.av_document.proofs.Numbers.{le_and_lt_from}
use Rattle.av_types.specs.Positions.{IsSectionOf, is_section_of, section_index}
use Rattle.av_types.specs.declared.position.Height.{Height}

tested : (a b c d : ℤ) → a ≤ℤ b → c <ℤ d → int_le a b && int_lt c d ≡ true
tested a b c d p q = grind (arith, ints)

pub section_test : (h : Height) (y : ℤ) (b : Bool) → (IsTrue b ↔ IsSectionOf h y) → b ≡ is_section_of h y
section_test h y true e = let s : IsSectionOf h y = e.0 refl in sym (tested _ _ _ _ s.low s.high)
section_test h y false e = sym (false_from_ne_true (is_section_of h y) (λ t. let p = le_and_lt_from _ _ _ _ t in true≢false (sym (e.1 (record { low = p.0; high = p.1 })))))

pub section_there : (h : Height) (y : ℤ) → is_section_of h y ≡ true → IsSectionOf h y
section_there h y t = let p = le_and_lt_from _ _ _ _ t in record { low = p.0; high = p.1 }

-- ---- where a section stands

natural_is : (z : ℤ) → pos 0 ≤ℤ z → pos (nat_abs z) ≡ z
natural_is (pos n) p = refl
natural_is (negsuc n) p = absurd (omega (arith, ints, p))

pub offset_is : (h : Height) (y : ℤ) → is_section_of h y ≡ true → pos (section_index h y) ≡ y -ℤ h.min_section
offset_is h y t = let p = le_and_lt_from h.min_section y y (h.min_section +ℤ pos h.sections) t in let low : h.min_section ≤ℤ y = p.0 in natural_is (y -ℤ h.min_section) (omega (arith, ints))

pub offset_at : (h : Height) (y : ℤ) (n : ℕ) → y ≡ h.min_section +ℤ pos n → section_index h y ≡ n
offset_at h y n e = let is = natural_is (y -ℤ h.min_section) (omega (arith, ints)) in omega (arith, ints)

pub offset_below : (h : Height) (y : ℤ) → is_section_of h y ≡ true → section_index h y < h.sections
offset_below h y t =
    let p = le_and_lt_from h.min_section y y (h.min_section +ℤ pos h.sections) t in
    let high : y <ℤ (h.min_section +ℤ pos h.sections) = p.1 in
    let is = offset_is h y t in
    omega (arith, ints)

pub offset_apart : (h : Height) (y z : ℤ) → is_section_of h y ≡ true → is_section_of h z ≡ true → section_index h y ≡ section_index h z → y ≡ z
offset_apart h y z s t e =
    let a = offset_is h y s in
    let b = offset_is h z t in
    omega (arith, ints)
