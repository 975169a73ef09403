use Rattle.std.proofs.Common.{◌≡◌, map}
use Rattle.std.specs.List.{range_with_len}
use Rattle.av_pack.specs.Packing.{packed_long, unpacked}
use Rattle.av_pack.proofs.in_longs.cleaned.Given as goal

abbrev pub invariant-loop-i : goal.invariant-loop-i
invariant-loop-i l = l.cleaned.items ≡ map (packed_long l.bits (unpacked l.bits l.longs)) (range_with_len 0 l.i)
