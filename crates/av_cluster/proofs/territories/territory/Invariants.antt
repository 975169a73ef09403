use Rattle.std.proofs.Common.{◌≡◌, ◌≤◌, take}
use Rattle.arrayvec.specs.ArrayVec.{array_vec_len}
use Rattle.av_world.specs.Views.{grid}
use Rattle.av_cluster.specs.Territory.{sections_there}
use Rattle.av_cluster.proofs.territories.territory.Given as goal

abbrev pub invariant-loop-corner : goal.invariant-loop-corner
invariant-loop-corner l =
    record {
      items : l.found.items ≡ sections_there (grid l.world) (take l.corner-index l.corner-items);
      few : array_vec_len l.found ≤ l.corner-index;
    }
