-- The plan that a core starts with, and the world that it leaves.
use Rattle.std.specs.Prelude.{◌≡◌, List, IsTrue, All}
use Rattle.av_types.specs.declared.tick.Entry.{Entry}
use Rattle.av_cells.specs.World as cells
use Rattle.av_world.specs.Views.{blocks, lists, site}
use Rattle.av_world.specs.declared.worlds.World.{World}
use Rattle.av_play.specs.Play.{Outcome}
use Rattle.av_cluster.specs.Clusters.{ArePlanned}
use Rattle.av_cluster.specs.declared.cluster_part.Cluster.{Cluster}

-- the plan of some entries, whose blocks are loaded
pub record IsPlanOf (w : cells.World) (clusters : List Cluster) : Type 0 where
  pub entries : List Entry
  pub loaded : All (λ e. IsTrue (w.loaded e.pos)) entries
  pub planned : ArePlanned w entries clusters

-- the same blocks, lists, chunks and height
pub record SameWorld (old new : World) : Type 0 where
  pub same_blocks : blocks new ≡ blocks old
  pub same_lists : lists new ≡ lists old
  pub same_site : site new ≡ site old

abbrev pub outcome_of : World → Outcome
outcome_of w = record { world = blocks w; lists = lists w }
