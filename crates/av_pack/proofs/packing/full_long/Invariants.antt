use Rattle.std.proofs.Common.{◌≡◌, take}
use Rattle.av_pack.specs.Packing.{low_first}
use Rattle.av_pack.proofs.packing.full_long.Given as goal

abbrev pub invariant-loop-i : goal.invariant-loop-i
invariant-loop-i l = l.long ≡ low_first l.bits (take l.i l.values)
