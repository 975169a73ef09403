use Rattle.std.proofs.Common.{◌≡◌}
use Rattle.av_lending.proofs.lender.find.Given as goal

abbrev pub invariant-loop : goal.invariant-loop
invariant-loop l = l.counter ≡ l.counter
