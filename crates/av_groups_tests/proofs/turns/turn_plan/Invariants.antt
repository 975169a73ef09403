use Rattle.std.proofs.Common.{All}
use Rattle.av_lending.specs.Plans.{IsUnderWay, IsLentAfter}
use Rattle.av_groups_tests.proofs.turns.turn_plan.Given as goal

abbrev pub invariant-loop-back : goal.invariant-loop-back
invariant-loop-back l = IsUnderWay l.plan l.world l.lender × All (λ one. IsLentAfter l.plan one.number one.number one.world) l.lent.items
