use Rattle.std.proofs.Common.{◌-◌}
use Rattle.av_pack.proofs.Bits.{Searching}
use Rattle.av_pack.proofs.packing.bits_for.Given as goal

abbrev pub invariant-loop-bits : goal.invariant-loop-bits
invariant-loop-bits l = Searching l.bits l.len

abbrev pub decreases-loop-bits : goal.decreases-loop-bits
decreases-loop-bits l = 16 - l.bits
