use Rattle.std.proofs.Common.{◌≡◌, ◌≤◌, All}
use Rattle.av_line.proofs.tests.take_all.Given as goal

abbrev pub invariant-loop : goal.invariant-loop
invariant-loop g l = (l.pass ≡ l.fn.pass) × All (λ n. n ≤ l.fn.pass.plan.most) l.taken.items
