use Rattle.std.proofs.Common.{◌<◌, All}
use Rattle.av_ring.specs.Numbers.{HaveDistinctNumbers}
use Rattle.av_ring.proofs.tests.thousand.Given as goal

abbrev pub invariant-loop-number : goal.invariant-loop-number
invariant-loop-number l = HaveDistinctNumbers (λ n. n) l.jobs.items × All (λ n. n < l.number) l.jobs.items
