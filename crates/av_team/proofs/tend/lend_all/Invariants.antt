use Rattle.std.proofs.Common.{◌≡◌}
use Rattle.av_lending.specs.Handed.{IsKeeperOf}
use Rattle.av_team.proofs.tend.lend_all.Given as goal

abbrev pub invariant-loop : goal.invariant-loop
invariant-loop g l = (l.passes ≡ l.fn.passes) × IsKeeperOf l.desk.plan l.keeper
