use Rattle.std.proofs.Common.{◌≡◌, ◌<◌, ◌^◌}
use Rattle.std.specs.Prelude.{All, length}
use Rattle.av_base_tests.proofs.pack.remainders.Given as goal

abbrev pub invariant-loop-i : goal.invariant-loop-i
invariant-loop-i l = (length l.values.items ≡ l.i) × All (λ value. value < 2 ^ 5) l.values.items
