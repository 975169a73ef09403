use Rattle.std.proofs.Common.{◌≡◌, length, vec_capacity}
use Rattle.av_world.specs.Views.{grid, IsSameButBlocks}
use Rattle.av_cluster.specs.Clusters.{sections_of}
use Rattle.av_inter.specs.Cut.{AreCut}
use Rattle.av_inter.proofs.parcels.carve_all.Given as goal

abbrev pub invariant-loop-cluster : goal.invariant-loop-cluster
invariant-loop-cluster l =
    record {
      cut : AreCut (grid l.fn.world) (sections_of l.clusters) l.world l.parcels.items;
      count : length l.parcels.items ≡ l.cluster-index;
      same : IsSameButBlocks l.fn.world l.world;
      room : vec_capacity l.parcels ≡ vec_capacity l.fn.parcels;
    }
