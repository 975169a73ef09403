use Rattle.std.proofs.Common.{◌≡◌}
use Rattle.av_map.specs.Pixels.{pixel_row}
use Rattle.av_map.specs.Rows.{patches_of}
use Rattle.av_map.proofs.painting.pixel_row.Given as goal

abbrev pub invariant-loop-x : goal.invariant-loop-x
invariant-loop-x l = l.row.items ≡ pixel_row (patches_of l.patches) l.x l.z
