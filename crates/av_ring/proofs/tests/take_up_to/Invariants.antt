use Rattle.std.proofs.Common.{◌≡◌, ◌++◌}
use Rattle.av_ring.specs.Shown.{IsSeatOf}
use Rattle.av_ring.proofs.tests.take_up_to.Given as goal

abbrev pub invariant-loop : goal.invariant-loop
invariant-loop g l = IsSeatOf l.ring l.seat × (l.seat.jobs ≡ l.fn.seat.jobs) × (l.seat.taken ≡ l.fn.seat.taken ++ l.taken.items)
