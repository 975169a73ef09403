use Rattle.std.proofs.Common.{◌≡◌, ◌≤◌, take}
use Rattle.std.specs.List.{sum_by}
use Rattle.av_map.specs.Maps.{short_in}
use Rattle.av_map.proofs.drawing.count_short.Given as goal

abbrev pub invariant-loop-file : goal.invariant-loop-file
invariant-loop-file l = (l.count ≡ sum_by short_in (take l.file-index l.files)) × (l.count ≤ l.file-index)
