use Rattle.std.proofs.Common.{◌<◌, ◌+◌, All, subst, sym}
use Rattle.av_ring.specs.Numbers.{HaveDistinctNumbers}
use Rattle.av_ring.proofs.Fresh.{below_none, below_more}
use Rattle.av_ring.proofs.tests.thousand.Goals as goal

pub loop-number-init : goal.loop-number-init
loop-number-init c = subst (λ xs. HaveDistinctNumbers (λ n. n) xs × All (λ m. m < 0) xs) (sym c.new-jobs.ensures.items) below_none

pub loop-number-preserved : goal.loop-number-preserved
loop-number-preserved c =
    subst (λ xs. HaveDistinctNumbers (λ n. n) xs × All (λ m. m < c.loop-number.number + 1) xs) (sym c.in_ok-push.ensures.items)
    (below_more c.loop-number.jobs.items c.loop-number.number c.loop-number.invariant)
