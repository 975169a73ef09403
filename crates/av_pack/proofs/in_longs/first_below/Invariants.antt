use Rattle.std.proofs.Common.{◌≡◌}
use Rattle.av_pack.specs.Fields.{entries_of}
use Rattle.av_pack.proofs.InLongs.{below, others}
use Rattle.av_pack.proofs.in_longs.first_below.Given as goal

abbrev pub invariant-loop-i : goal.invariant-loop-i
invariant-loop-i l = below l.count (entries_of l.bits l.long l.few) ≡ below l.count (others l.bits l.long l.i l.few)
