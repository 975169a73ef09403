use Rattle.std.proofs.Common.{◌≡◌, All, Some, length}
use Rattle.av_lending.proofs.lender.unturned.Given as goal

abbrev pub invariant-loop : goal.invariant-loop
invariant-loop l = (length l.stages.items ≡ l.counter) × All (λ o. o ≡ Some 0) l.stages.items
