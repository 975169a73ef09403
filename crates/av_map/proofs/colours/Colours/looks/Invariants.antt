use Rattle.std.proofs.Common.{◌≡◌, map, take}
use Rattle.av_state.specs.Table.{states}
use Rattle.av_map.specs.Looks.{look_of}
use Rattle.av_map.specs.Views.{colours_of}
use Rattle.av_map.proofs.colours.Colours.looks.Given as goal

abbrev pub invariant-loop-number : goal.invariant-loop-number
invariant-loop-number l = l.looks.items ≡ map (look_of (colours_of l.self)) (take l.number (states l.table))
