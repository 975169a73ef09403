use Rattle.std.proofs.Common.{◌≡◌, ◌∙◌, sym, ap, subst, arith, length, ◌↔◌}
use Rattle.std.specs.List.{Contains}
use Rattle.av_world.specs.Near.{cells_near}
use Rattle.av_world.specs.Views.{blocks, grid}
use Rattle.av_play.specs.Parts.{InTerritory}
use Rattle.av_cluster.specs.Territory.{AreRising, territory_list, sections_there}
use Rattle.av_cluster.proofs.Orders.{territory_rises}
use Rattle.av_cluster.proofs.Sides.{territory_exact}
use Rattle.av_cluster.proofs.Joinings.{taken_all}
use Rattle.av_cluster.proofs.CornerLists.{there_more, there_list}
use Rattle.av_cluster.proofs.territories.territory.Goals as goal

pub corners-corners-requires : goal.corners-corners-requires
corners-corners-requires c = let w = c.args.world.now in cells_near w.height w.positions.items w.chunks.items w.lawful c.args.at c.requires

pub loop-corner-init : goal.loop-corner-init
loop-corner-init c = record { items = c.new-found.ensures; few = let e = ap length c.new-found.ensures in omega arith }

pub add_loaded-requires : goal.add_loaded-requires
add_loaded-requires c = let a = c.loop-corner.invariant.few in let b = c.loop-corner-test.true in let d = c.as_slice-corner-items.ensures.fits in omega arith

pub loop-corner-preserved : goal.loop-corner-preserved
loop-corner-preserved c =
    let i = c.loop-corner.invariant in
    record {
      items = there_more (grid c.args.world.now) c.as_slice-corner-items.result.now c.loop-corner.corner-index _ c.loop-corner-test.true _ _ i.items c.add_loaded.ensures.items;
      few = let a = c.add_loaded.ensures.len in let b = i.few in omega arith;
    }

pub returns-clause-order : goal.returns-clause-order
returns-clause-order c =
    let g = grid c.args.world.now in
    let e : c.loop-corner.found.items ≡ territory_list g c.args.at =
    c.loop-corner.invariant.items
    ∙ ap (sections_there g) (taken_all c.as_slice-corner-items.result.now c.loop-corner.corner-index (let a = c.loop-corner-test.false in let b = c.loop-corner.auto.corner-index-end in omega arith) ∙ c.as_slice-corner-items.ensures.value ∙ c.corners-corners.ensures)
    ∙ there_list g c.args.at in
    subst AreRising (sym e) (territory_rises g c.args.at)

pub returns-clause-exact : goal.returns-clause-exact
returns-clause-exact c = λ s.
    let g = grid c.args.world.now in
    let e : c.loop-corner.found.items ≡ territory_list g c.args.at =
    c.loop-corner.invariant.items
    ∙ ap (sections_there g) (taken_all c.as_slice-corner-items.result.now c.loop-corner.corner-index (let a = c.loop-corner-test.false in let b = c.loop-corner.auto.corner-index-end in omega arith) ∙ c.as_slice-corner-items.ensures.value ∙ c.corners-corners.ensures)
    ∙ there_list g c.args.at in
    subst (λ l. Contains l s ↔ InTerritory (blocks c.args.world.now) c.args.at s) (sym e) (territory_exact g c.args.at s)
