use Rattle.std.proofs.Common.{◌≡◌, ◌/◌, ◌*◌, map}
use Rattle.std.specs.List.{range_with_len}
use Rattle.av_pack.specs.Packing.{packed_at}
use Rattle.av_pack.proofs.packing.unpack_by.Given as goal

abbrev pub invariant-loop-long : goal.invariant-loop-long
invariant-loop-long l = l.values.items ≡ map (packed_at l.bits l.longs) (range_with_len 0 (64 / l.bits * l.long-index))
