use Rattle.std.proofs.Common.{◌≡◌, ◌++◌, drop}
use Rattle.std.specs.List.{flat_map}
use Rattle.std.specs.Int.{w32}
use Rattle.av_nbt.specs.Writing.{signed_bytes}
use Rattle.av_nbt.proofs.writer.write_ints.Given as goal

abbrev pub invariant-loop-int : goal.invariant-loop-int
invariant-loop-int l = l.out.items ++ flat_map (signed_bytes w32) (drop l.int-index l.ints) ≡ l.fn.out.items ++ flat_map (signed_bytes w32) l.ints
