use Rattle.std.proofs.Common.{◌≡◌, ◌++◌, length, vec_len}
use Rattle.av_world.specs.Views.{grid, IsSameButBlocks}
use Rattle.av_crew.specs.Jobs.{AreJobs, IsCarved}
use Rattle.av_cluster.specs.Clusters.{parts_of}
use Rattle.av_crew.specs.Parts.{picks_of, HaveParts}
use Rattle.av_crew.proofs.parts.carve_all.Given as goal

abbrev pub invariant-loop-cluster : goal.invariant-loop-cluster
invariant-loop-cluster l =
    (goal.iterator-loop-cluster).can_next l.cluster-iterator ×
    (goal.iterator-loop-cluster).is_finite l.cluster-iterator ×
    AreJobs (grid l.fn.world) (parts_of l.fn.clusters.items) (picks_of l.fn.clusters.items) 0 l.jobs.items ×
    (vec_len l.jobs ≡ length l.yielded) ×
    (l.number ≡ length l.yielded) ×
    IsCarved (grid l.fn.world) (picks_of l.fn.clusters.items) (length l.yielded) (grid l.world) ×
    HaveParts l.world l.jobs.items ×
    IsSameButBlocks l.fn.world l.world ×
    (l.fn.clusters.items ≡ l.yielded ++ l.cluster-iterator.rest.items)
