use Rattle.std.proofs.Common.{◌≡◌, ◌++◌, drop}
use Rattle.std.specs.List.{flat_map}
use Rattle.std.specs.Int.{w64}
use Rattle.av_nbt.specs.Writing.{signed_bytes}
use Rattle.av_nbt.proofs.writer.write_longs.Given as goal

abbrev pub invariant-loop-long : goal.invariant-loop-long
invariant-loop-long l = l.out.items ++ flat_map (signed_bytes w64) (drop l.long-index l.longs) ≡ l.fn.out.items ++ flat_map (signed_bytes w64) l.longs
