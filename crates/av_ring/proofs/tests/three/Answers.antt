use Rattle.std.proofs.Common.{subst, sym, arith}
use Rattle.av_ring.specs.Numbers.{HaveDistinctNumbers}
use Rattle.av_ring.proofs.Fresh.{distinct_three}
use Rattle.av_ring.proofs.tests.three.Goals as goal

pub returns : goal.returns
returns c = subst (HaveDistinctNumbers (λ n. n)) (sym c.in_ok-jobs.ensures.items) (distinct_three 7 3 9 (λ e. omega arith) (λ e. omega arith) (λ e. omega arith))
