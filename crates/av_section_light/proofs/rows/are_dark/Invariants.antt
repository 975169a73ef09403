use Rattle.std.proofs.Common.{◌≡◌, ◌<◌, ℕ, get_or}
use Rattle.av_rules.specs.Kinds.{row_at}
use Rattle.av_section_light.proofs.rows.are_dark.Given as goal

abbrev pub invariant-loop-number : goal.invariant-loop-number
invariant-loop-number l = (k : ℕ) → k < l.number-index → (row_at l.kinds (get_or l.numbers k 0)).emission ≡ 0
