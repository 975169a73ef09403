use Rattle.std.proofs.Common.{◌≡◌, ◌+◌, All, vec_len}
use Rattle.av_ring.specs.Shown.{IsSeatOf}
use Rattle.av_ring.proofs.tests.apart.Given as goal

abbrev pub invariant-loop-seat : goal.invariant-loop-seat
invariant-loop-seat l =
    All (λ p. IsSeatOf l._ring p.0) l.parts.items × All (IsSeatOf l._ring) l.seats.items
    × (vec_len l.seats + vec_len l.parts ≡ vec_len l.fn.parts)

abbrev pub decreases-loop-seat : goal.decreases-loop-seat
decreases-loop-seat l = vec_len l.parts
