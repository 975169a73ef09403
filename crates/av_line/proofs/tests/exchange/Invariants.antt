use Rattle.std.proofs.Common.{◌≡◌, ◌≤◌, All}
use Rattle.av_line.proofs.tests.exchange.Given as goal

abbrev pub invariant-loop-number : goal.invariant-loop-number
invariant-loop-number g l = (l.pass ≡ l.fn.pass) × All (λ n. n ≤ l.fn.pass.plan.most) l.taken.items
