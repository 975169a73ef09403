use Rattle.std.proofs.Common.{◌≡◌, length, take}
use Rattle.av_pack.specs.Fields.{entries_of}
use Rattle.av_pack.proofs.packing.entries_of.Given as goal

abbrev pub invariant-loop-i : goal.invariant-loop-i
invariant-loop-i l = record {
  long : length l.entries ≡ 16;
  filled : take l.i l.entries ≡ entries_of l.bits l.long l.i;
}
