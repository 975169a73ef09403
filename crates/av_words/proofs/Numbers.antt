-- Numbers that the words give.
use Rattle.std.proofs.Common.{◌∙◌, sym, subst, ℤ, List, FitsSigned, w32}
use Rattle.std.proofs.lemmas.Int.{to_z-of_z}
use Rattle.std.specs.Int.{cast_signed, cast_unsigned}
use Rattle.clap.specs.Words.{Row, Text}
use Rattle.av_words.specs.CommandLine.{HasNumber}

-- a number that is stored is the number
pub stored : (rows : List Row) (name : Text) (n : ℤ) → HasNumber rows name n
    → HasNumber rows name (cast_signed w32 (cast_unsigned w32 n))
stored rows name n h =
    let fits : FitsSigned w32 n = subst (λ (z : ℤ). FitsSigned w32 z) (sym h.2.2) h.2.1 in
    (h.0, h.1, (h.2.0, h.2.1, to_z-of_z w32 n fits ∙ h.2.2))
