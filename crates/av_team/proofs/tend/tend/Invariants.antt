use Rattle.std.proofs.Common.{◌≡◌}
use Rattle.av_team.proofs.tend.tend.Given as goal

abbrev pub invariant-loop : goal.invariant-loop
invariant-loop g l = l.passes ≡ l.fn.passes
