-- Lines that begin with a number.
use Rattle.std.proofs.Common.{sym, subst, append_assoc, List, ℕ, [], ◌∷◌, ◌++◌, Option, Result, OnOk}
use Rattle.std.specs.Io.KnownBytes.{Appends}
use Rattle.av_reports.specs.Output.{line}

-- a number, and a text with its end of line
pub told : {T E : Type 0} (r : Result T E) (before after : Option (List ℕ)) (number text : List ℕ) → OnOk r (Appends before after (number ++ (text ++ 10 ∷ [])))
    → OnOk r (Appends before after (line (number ++ text)))
told r before after number text written = subst (λ (t : List ℕ). OnOk r (Appends before after t)) (sym (append_assoc number text (10 ∷ []))) written
