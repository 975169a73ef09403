use Rattle.std.proofs.Common.{◌≡◌, true}
use Rattle.av_pack.proofs.InLongs.{below, walked}
use Rattle.av_pack.proofs.in_longs.below_by.Given as goal

abbrev pub invariant-loop-i : goal.invariant-loop-i
invariant-loop-i l = below l.count (walked l.bits l.longs l.i) ≡ true
