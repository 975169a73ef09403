use Rattle.std.proofs.Common.{◌≡◌, ◌≤◌, ◌*◌, take}
use Rattle.std.specs.List.{sum_by}
use Rattle.av_map.specs.Pixels.{unread_in}
use Rattle.av_map.proofs.painting.count_unread.Given as goal

abbrev pub invariant-loop-row : goal.invariant-loop-row
invariant-loop-row l = (l.count ≡ sum_by (λ row. sum_by unread_in row.items) (take l.row-index l.patches)) × (l.count ≤ 1024 * l.row-index)
