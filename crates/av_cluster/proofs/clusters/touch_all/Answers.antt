use Rattle.std.proofs.Common.{arith, ◌∙◌}
use Rattle.std.proofs.lemmas.List.{take_more}
use Rattle.av_world.specs.Near.{cells_near}
use Rattle.av_world.specs.Views.{grid}
use Rattle.av_cluster.proofs.Joinings.{within_none, owner_inside}
use Rattle.av_cluster.proofs.CornerLists.{corner_noted, corners_noted, item_of, owned_is_there}
use Rattle.av_cluster.proofs.clusters.touch_all.Goals as goal

pub corners-corners-requires : goal.corners-corners-requires
corners-corners-requires c = let w = c.args.world.now in cells_near w.height w.positions.items w.chunks.items w.lawful _ (c.requires.loaded c.args.index _ c.requires.index)

pub loop-corner-init : goal.loop-corner-init
loop-corner-init c = within_none _ _ _ _ _ c.requires.noted

pub touch-requires-clause-owner : goal.touch-requires-clause-owner
touch-requires-clause-owner c = owner_inside _ _ _ _ _ c.loop-corner.invariant _

pub touch-requires-clause-loaded : goal.touch-requires-clause-loaded
touch-requires-clause-loaded c = owned_is_there (grid c.args.world.now) _ _ _ _ c.loop-corner.invariant _

pub loop-corner-preserved : goal.loop-corner-preserved
loop-corner-preserved c =
    corner_noted (grid c.args.world.now) c.args.entries.now c.args.index _ c.requires.index _ _ _ _ _ _ _
    (take_more c.as_slice-corner-items.result.now c.loop-corner.corner-index _ c.loop-corner-test.true)
    (item_of c.as_slice-corner-items.result.now _ (c.as_slice-corner-items.ensures.value ∙ c.corners-corners.ensures) c.loop-corner.corner-index c.loop-corner-test.true _)
    c.loop-corner.invariant
    c.in_ok-touch.ensures

pub returns : goal.returns
returns c =
    corners_noted (grid c.args.world.now) c.args.entries.now c.args.index _ c.requires.index _ _ c.as_slice-corner-items.result.now
    (c.as_slice-corner-items.ensures.value ∙ c.corners-corners.ensures) c.loop-corner.corner-index
    (let a = c.loop-corner-test.false in let b = c.loop-corner.auto.corner-index-end in omega arith) c.loop-corner.invariant
