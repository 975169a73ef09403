use Rattle.std.proofs.Common.{◌≡◌, ◌≤◌}
use Rattle.av_pack.specs.Fields.{entries_of}
use Rattle.av_pack.specs.Seen.{seen_after}
use Rattle.av_pack.proofs.in_longs.seen_with_each.Given as goal

abbrev pub invariant-loop-i : goal.invariant-loop-i
invariant-loop-i l = (l.next ≡ seen_after l.start (entries_of l.bits l.long l.i)) × (l.next ≤ 65537)
