use Rattle.std.proofs.Common.{◌≡◌, ℕ, true, false, get_or}
use Rattle.std.specs.Prelude.{Contains}
use Rattle.av_section.proofs.indices.marks_of.Given as goal

abbrev pub invariant-loop-number : goal.invariant-loop-number
invariant-loop-number l = (i : ℕ) → get_or l.marks i false ≡ true → Contains l.palette i
