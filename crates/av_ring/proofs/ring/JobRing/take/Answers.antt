use Rattle.std.proofs.Common.{◌≢◌, All, subst, ap, rules}
use Rattle.av_ring.proofs.Fresh.{fresh}
use Rattle.av_ring.proofs.Seats.{seat-takes, took_part}
use Rattle.av_ring.proofs.ring.JobRing.take.Goals as goal

pub pop_as-requires-clause-rule : goal.pop_as-requires-clause-rule
pop_as-requires-clause-rule g c = seat-takes _ _ _ _ _ _ c.seat.invariant.1 c.if-seat.false

pub returns-in-Some-Some-clause-fresh : goal.returns-in-Some-Some-clause-fresh
returns-in-Some-Some-clause-fresh g c =
    let number = g.J.Numbered.number_of in
    subst (λ taken. All (λ y. number y ≢ number c.in-Some-Some.job) taken) (ap (λ s. s.taken) c.seat.view_is)
    (fresh number _ _ _ c.seat.invariant.2 (took_part _ _ _ _ (search rules) c.in-Some-Some.ensures.rule))
