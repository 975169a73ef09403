-- What is said of a failure.
use Rattle.std.specs.Prelude.{◌≡◌, ℕ, Bool, false, List, [], ◌++◌, Option, codes}
use Rattle.std.specs.Io.KnownBytes.{Appends}
use Rattle.av_types.specs.declared.fault.Fault.{Fault}
use Rattle.av_reports.specs.Output.{fault_lines, lines_of}

-- lines that two spaces begin
abbrev pub reason_lines : List (List ℕ) → List ℕ
reason_lines reasons = lines_of (λ r. codes "  " ++ r) reasons

-- a fault's line, and how to go on where it is said of each such fault; and behind it, only where that is asked for, other lines that two
-- spaces begin
pub record TellsFailure (explains : Bool) (e : Fault) (before after : Option (List ℕ)) : Type 0 where
  pub reasons : List (List ℕ)
  pub unasked : explains ≡ false → reasons ≡ []
  pub written : Appends before after (fault_lines e ++ reason_lines reasons)
