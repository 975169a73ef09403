use Rattle.std.proofs.Common.{◌≡◌, ℕ, ◌∙◌, sym, ap, subst, List, [], length, arith, replicate, Some}
use Rattle.av_rules.specs.Kinds.{kind_count}
use Rattle.av_cells.specs.Grid.{cells_of}
use Rattle.av_world.specs.Views.{grid, blocks, lists, height_of, positions_of}
use Rattle.av_types.specs.declared.tick.Made.{Made}
use Rattle.av_play.specs.Play.{all_wait}
use Rattle.av_inter.specs.Whole.{whole}
use Rattle.av_cluster.specs.declared.cluster_part.Cluster.{Cluster}
use Rattle.av_play.specs.declared.event.Stage.{Stage}
use Rattle.av_play.specs.declared.event.Stage.TheVariants.{Waits}
use Rattle.av_cluster.specs.Clusters.{parts_of, sections_of}
use Rattle.av_inter.specs.Out.{outs}
use Rattle.av_inter.specs.Cut.{CanCut, AreCut}
use Rattle.av_inter.specs.Lawful.{IsCore}
use Rattle.av_inter.proofs.Cutting.{parts_of_cut, same_places}
use Rattle.av_inter.proofs.Starting.{can_cut, start_is, start_core, all_wait_is}
use Rattle.av_inter.proofs.machine.Core.new.Goals as goal

pub carve_all-requires-clause-can : goal.carve_all-requires-clause-can
carve_all-requires-clause-can c =
    let w = c.args.world in let p = c.requires.plan in
    let cs : c.as_slice.result.now ≡ c.args.clusters.items = c.as_slice.ensures.value in
    let can = can_cut (grid w) p.entries c.args.clusters.items p.planned in
    subst (λ (l : List Cluster). CanCut (grid w) (sections_of l)) (sym cs) can

pub mend_all-requires : goal.mend_all-requires
mend_all-requires c =
    let w = c.args.world in let p = c.requires.plan in
    let cs : c.as_slice.result.now ≡ c.args.clusters.items = c.as_slice.ensures.value in
    let can = can_cut (grid w) p.entries c.args.clusters.items p.planned in
    let cut = subst (λ (l : List Cluster). AreCut (grid w) (sections_of l) c.carve_all.new.world c.carve_all.new.parcels.items) cs c.carve_all.ensures.cut in
    parts_of_cut (grid w) (sections_of c.args.clusters.items) can c.carve_all.new.world c.carve_all.new.parcels.items cut

pub returns-in-Err-clause-back : goal.returns-in-Err-clause-back
returns-in-Err-clause-back c =
    let w = c.args.world in let p = c.requires.plan in
    let cs : c.as_slice.result.now ≡ c.args.clusters.items = c.as_slice.ensures.value in
    let can = can_cut (grid w) p.entries c.args.clusters.items p.planned in
    let cut = subst (λ (l : List Cluster). AreCut (grid w) (sections_of l) c.carve_all.new.world c.carve_all.new.parcels.items) cs c.carve_all.ensures.cut in
    let m = c.mend_all.ensures.same in let e = c.carve_all.ensures.same in
    record {
      same_blocks = ap cells_of (c.mend_all.ensures.grid (grid w) (sections_of c.args.clusters.items) can cut);
      same_lists = m.lists_are ∙ e.lists_are;
      same_site = λ i. record { height = Some ((m.height ∙ e.height) i); chunks = (ap (λ x. x.items) (m.positions ∙ e.positions)) i; broken = (m.broken ∙ e.broken) i };
    }

pub invariant_of-result : goal.invariant_of-result
invariant_of-result c =
    let w = c.args.world in let p = c.requires.plan in
    let cs : c.as_slice.result.now ≡ c.args.clusters.items = c.as_slice.ensures.value in
    let can = can_cut (grid w) p.entries c.args.clusters.items p.planned in
    let cut = subst (λ (l : List Cluster). AreCut (grid w) (sections_of l) c.carve_all.new.world c.carve_all.new.parcels.items) cs c.carve_all.ensures.cut in
    let all : length c.carve_all.new.parcels.items ≡ length c.args.clusters.items = c.in-Ok-carve_all.ensures.all ∙ ap length cs in
    let waits : c.in-Ok.stages.items ≡ all_wait (parts_of c.args.clusters.items) = c.in-Ok.ensures ∙ ap (λ (n : ℕ). replicate n Waits) (let e : c.len.result ≡ length c.args.clusters.items = omega (arith, c.len.ensures, c.args.clusters.ok.0) in e) ∙ all_wait_is c.args.clusters.items in
    record {
      lawful = subst (λ (m : List Made). IsCore (kind_count c.args.kinds.now) (height_of c.carve_all.new.world) (positions_of c.carve_all.new.world) (lists c.carve_all.new.world) (blocks c.carve_all.new.world) (sections_of c.args.clusters.items) (parts_of c.args.clusters.items) c.in-Ok.stages.items (outs c.carve_all.new.parcels.items) m) (sym c.new.ensures.items)
          (subst (λ (l : List Stage). IsCore (kind_count c.args.kinds.now) (height_of c.carve_all.new.world) (positions_of c.carve_all.new.world) (lists c.carve_all.new.world) (blocks c.carve_all.new.world) (sections_of c.args.clusters.items) (parts_of c.args.clusters.items) l (outs c.carve_all.new.parcels.items) []) (sym waits)
          (start_core (kind_count c.args.kinds.now) (grid w) p.entries c.args.clusters.items c.carve_all.new.world c.carve_all.new.parcels.items p.planned p.loaded c.requires.kinds cut all));
      unbroken = c.carve_all.ensures.same.broken ∙ c.requires.unbroken;
    }

pub returns-clause-start : goal.returns-clause-start
returns-clause-start c =
    let w = c.args.world in let p = c.requires.plan in
    let cs : c.as_slice.result.now ≡ c.args.clusters.items = c.as_slice.ensures.value in
    let can = can_cut (grid w) p.entries c.args.clusters.items p.planned in
    let cut = subst (λ (l : List Cluster). AreCut (grid w) (sections_of l) c.carve_all.new.world c.carve_all.new.parcels.items) cs c.carve_all.ensures.cut in
    let all : length c.carve_all.new.parcels.items ≡ length c.args.clusters.items = c.in-Ok-carve_all.ensures.all ∙ ap length cs in
    let waits : c.in-Ok.stages.items ≡ all_wait (parts_of c.args.clusters.items) = c.in-Ok.ensures ∙ ap (λ (n : ℕ). replicate n Waits) (let e : c.len.result ≡ length c.args.clusters.items = omega (arith, c.len.ensures, c.args.clusters.ok.0) in e) ∙ all_wait_is c.args.clusters.items in
    λ i. record {
      world = (ap (λ (m : List Made). whole (outs c.carve_all.new.parcels.items) (blocks c.carve_all.new.world) m) c.new.ensures.items
          ∙ start_is (kind_count c.args.kinds.now) (grid w) p.entries c.args.clusters.items c.carve_all.new.world c.carve_all.new.parcels.items p.planned p.loaded c.requires.kinds cut all) i;
      lists = c.carve_all.ensures.same.lists_are i;
      made = c.new.ensures.items i;
      stages = waits i;
    }

pub returns-clause-site : goal.returns-clause-site
returns-clause-site c = same_places _ _ c.carve_all.ensures.same
