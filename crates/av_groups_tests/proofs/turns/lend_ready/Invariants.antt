use Rattle.std.proofs.Common.{All}
use Rattle.av_lending.specs.Plans.{IsUnderWay, IsLentAfter}
use Rattle.av_groups_tests.proofs.turns.lend_ready.Given as goal

abbrev pub invariant-loop : goal.invariant-loop
invariant-loop l = IsUnderWay l.plan l.world l.lender × All (λ one. IsLentAfter l.plan one.number one.number one.world) l.lent.items
