use Rattle.std.proofs.Common.{◌≡◌, drop}
use Rattle.av_map.specs.Colours.{colour_named}
use Rattle.av_map.specs.Views.{all_named}
use Rattle.av_map.proofs.colours.named.Given as goal

abbrev pub invariant-loop-row : goal.invariant-loop-row
invariant-loop-row l = colour_named l.name (all_named (drop l.row-index l.rows)) ≡ colour_named l.name (all_named l.rows)
