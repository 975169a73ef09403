-- A core as the state of the machine that is stepped event by event.
use Rattle.std.specs.Prelude.{◌≡◌, ℕ, List}
use Rattle.av_cells.specs.Kinds.{kinds_of}
use Rattle.av_cells.specs.declared.kind.Kind.{Kind}
use Rattle.av_play.specs.declared.event.DueEntry.{DueEntry}
use Rattle.av_play.specs.Play.{State}
use Rattle.av_cells.specs.World.{Site}
use Rattle.av_world.specs.Views.{blocks, lists, site}
use Rattle.av_cluster.specs.Clusters.{parts_of}
use Rattle.av_inter.specs.Out.{outs}
use Rattle.av_inter.specs.Whole.{whole}
use Rattle.av_inter.specs.declared.machine.Core.{Core}

-- the world is its own blocks and those of the parcels that are out, with what was put aside pending
abbrev pub state_of : Core → State
state_of c = record { world = whole (outs c.parcels.items) (blocks c.world) c.made.items; lists = lists c.world; made = c.made.items; stages = c.stages.items }

-- the entries of each part
abbrev pub parts_in : Core → List (List DueEntry)
parts_in c = parts_of c.clusters.items

-- the kinds of numbers, and the tick
abbrev pub kinds_in : Core → ℕ → Kind
kinds_in c = kinds_of c.kinds.now

abbrev pub now_in : Core → ℕ
now_in c = c.now

-- the height, the chunks, and whether it is broken, of the world that the core was made from
abbrev pub site_in : Core → Site
site_in c = site c.world

-- the same parts, kinds, tick and chunks
pub record IsSameTick (old new : Core) : Type 0 where
  pub parts : parts_in new ≡ parts_in old
  pub kinds : kinds_in new ≡ kinds_in old
  pub now : now_in new ≡ now_in old
  pub same_site : site_in new ≡ site_in old
