-- Printed numbers, and dots.
use Rattle.std.proofs.Common.{◌<◌, ℕ, ℤ, pos, negsuc, suc, zero, List, ◌∷◌, FitsSigned, w32, arith, ◌^◌}
use Rattle.std.specs.Int.Signed.{mag}
use Rattle.std.specs.Fmt.{decimal, signed_decimal}
use Rattle.std.specs.Int.{IsInRange}
use Rattle.std.specs.Str.Parse.{AllDigits, digits_value}
use Rattle.std.proofs.lemmas.Str.Parse.{IsNumeralModel, not_in_digits, numerals_by_value, tells_digits}
use Rattle.std.proofs.lemmas.Fmt.{digits_decimal}
use Rattle.av_reports.specs.Names.{HasNoDot}

own : IsNumeralModel (AllDigits 10) (digits_value 10)
own = numerals_by_value (AllDigits 10) tells_digits

no_digit : IsInRange 48 57 46 → ⊥
no_digit h = absurd (omega arith)

decimal_no_dot : (n : ℕ) → n < 2 ^ 64 → HasNoDot (decimal n)
decimal_no_dot n small = not_in_digits own (decimal n) 46 (digits_decimal own n small) no_digit

behind_sign : (text : List ℕ) → HasNoDot text → HasNoDot (45 ∷ text)
behind_sign text none zero lt = λ e. absurd (omega arith)
behind_sign text none (suc i) lt = none i (omega arith)

pub signed_no_dot : (z : ℤ) → FitsSigned w32 z → HasNoDot (signed_decimal z)
signed_no_dot (pos n) fits = decimal_no_dot n (let small : n < 2 ^ 31 = fits.sfits in omega arith)
signed_no_dot (negsuc n) fits = behind_sign (decimal (suc n)) (decimal_no_dot (suc n) (let small : n < 2 ^ 31 = fits.sfits in omega arith))

pub small_number : (z : ℤ) → FitsSigned w32 z → mag z < 2 ^ 63
small_number z fits = let small : mag z < 2 ^ 31 = fits.sfits in omega arith
