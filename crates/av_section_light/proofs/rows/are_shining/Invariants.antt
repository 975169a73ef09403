use Rattle.std.proofs.Common.{◌≡◌, ◌<◌, ℕ, false, length, get_or}
use Rattle.std.specs.Prelude.{nat_lt}
use Rattle.av_rules.specs.Kinds.{row_at}
use Rattle.av_section_light.proofs.rows.are_shining.Given as goal

abbrev pub invariant-loop-number : goal.invariant-loop-number
invariant-loop-number l =
    record {
      count : length l.flags.items ≡ l.number-index;
      each : (i : ℕ) → i < l.number-index → get_or l.flags.items i false ≡ nat_lt 0 (row_at l.kinds (get_or l.palette i 0)).emission;
    }
