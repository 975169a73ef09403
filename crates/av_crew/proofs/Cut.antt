-- A plan of a tick's entries, as it is carved.
use Rattle.std.proofs.Common.{List}
use Rattle.av_types.specs.declared.tick.Entry.{Entry}
use Rattle.av_cells.proofs.GridBlocks.{among_has, has_among}
use Rattle.av_cells.specs.Grid.{Grid, cells_of}
use Rattle.av_cluster.specs.Clusters.{ArePlanned, sections_of, sections_at}
use Rattle.av_cluster.specs.declared.cluster_part.Cluster.{Cluster}
use Rattle.av_crew.specs.Parts.{IsCut}

pub cut_is : (g : Grid) (entries : List Entry) (cs : List Cluster) → ArePlanned (cells_of g) entries cs → IsCut g entries cs
cut_is g entries cs p =
    record {
      plan = p.plan;
      exact = λ n s. (λ t. (p.exact n s).0 (among_has (sections_at (sections_of cs) n) s t), λ o. has_among (sections_at (sections_of cs) n) s ((p.exact n s).1 o));
      distinct = p.once;
    }
