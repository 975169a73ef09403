use Rattle.std.proofs.Common.{◌≡◌, ◌≤◌, take}
use Rattle.std.specs.List.{sum_by}
use Rattle.av_map.specs.Pixels.{unread_in}
use Rattle.av_map.proofs.painting.unread_in_row.Given as goal

abbrev pub invariant-loop-patch : goal.invariant-loop-patch
invariant-loop-patch l = (l.count ≡ sum_by unread_in (take l.patch-index l.row)) × (l.count ≤ l.patch-index)
