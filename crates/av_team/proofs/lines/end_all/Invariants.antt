use Rattle.std.proofs.Common.{◌≡◌}
use Rattle.av_team.proofs.lines.end_all.Given as goal

abbrev pub invariant-loop : goal.invariant-loop
invariant-loop g l = l.passes ≡ l.fn.passes
