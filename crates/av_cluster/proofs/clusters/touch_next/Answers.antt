use Rattle.std.proofs.Common.{◌<◌, get_or, arith}
use Rattle.av_world.specs.Near.{cells_near}
use Rattle.av_world.specs.Views.{grid}
use Rattle.av_cluster.proofs.CornerLists.{beside_noted}
use Rattle.av_cluster.proofs.clusters.touch_next.Goals as goal

pub reach_index-slot-requires : goal.reach_index-slot-requires
reach_index-slot-requires c = let w = c.args.world.now in cells_near w.height w.positions.items w.chunks.items w.lawful _ (c.requires.loaded c.args.index _ c.requires.index)

pub meet_same_sections-requires-clause-a : goal.meet_same_sections-requires-clause-a
meet_same_sections-requires-clause-a c =
    let w = c.args.world.now in let before = get_or c.args.near.now c.reach_index-slot.result 0 in
    let l : before < c.args.index = c.if-before-index.false in let m = c.requires.index in
    cells_near w.height w.positions.items w.chunks.items w.lawful _ (c.requires.loaded before _ (omega (arith, l, m)))

pub meet_same_sections-requires-clause-b : goal.meet_same_sections-requires-clause-b
meet_same_sections-requires-clause-b c = let w = c.args.world.now in cells_near w.height w.positions.items w.chunks.items w.lawful _ (c.requires.loaded c.args.index _ c.requires.index)

pub returns : goal.returns
returns c =
    beside_noted (grid c.args.world.now) c.args.entries.now _ (get_or c.args.near.now c.reach_index-slot.result 0) c.args.index _ _ _ c.if-before-index.false c.requires.index
    (c.meet_same_sections.ensures c.if-not-meet_same_sections.false) (c.requires.loaded c.args.index _ c.requires.index) c.requires.noted c.join.ensures
