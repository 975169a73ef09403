use Rattle.std.proofs.Common.{◌≡◌, take}
use Rattle.std.specs.Map.{keys_of}
use Rattle.av_cluster.specs.Clusters.{parts_of, sections_of, AreShared, AreOnce}
use Rattle.av_cluster.specs.Joining.{owner_in}
use Rattle.av_cluster.proofs.clusters.share.Given as goal

abbrev pub invariant-loop-entry : goal.invariant-loop-entry
invariant-loop-entry l =
    record {
      parts : parts_of l.clusters.items ≡ parts_of l.initial.clusters.items;
      shared : AreShared (owner_in l.owners.entries.items) l.numbers (take l.entry-index (keys_of l.owners.entries.items)) (sections_of l.clusters.items);
      once : AreOnce (sections_of l.clusters.items);
    }
