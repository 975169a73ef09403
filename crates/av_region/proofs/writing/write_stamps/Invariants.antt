use Rattle.std.proofs.Common.{◌≡◌, ◌++◌, drop}
use Rattle.std.specs.Int.{w32, to_be_bytes}
use Rattle.std.specs.List.{flat_map}
use Rattle.av_region.proofs.writing.write_stamps.Given as goal

abbrev pub invariant-loop-stamp : goal.invariant-loop-stamp
invariant-loop-stamp l = l.file.items ++ flat_map (to_be_bytes w32) (drop l.stamp-index l.stamps) ≡ l.initial.file.items ++ flat_map (to_be_bytes w32) l.stamps
