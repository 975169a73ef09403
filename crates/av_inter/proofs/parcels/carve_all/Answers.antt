use Rattle.std.proofs.Common.{◌≡◌, ℕ, ◌∙◌, List, Option, refl, sym, ap, subst, length, arith, IsTrue, All, false}
use Rattle.std.specs.List.{AllPairs}
use Rattle.av_world.proofs.Steps.{IsSameButBlocks-trans}
use Rattle.av_types.specs.declared.position.SectionPos.{SectionPos}
use Rattle.av_cells.specs.Positions.{same_section}
use Rattle.av_cells.specs.Grid.{is_here}
use Rattle.av_world.specs.Views.{grid}
use Rattle.av_world.specs.declared.parcels.Parcel.{Parcel}
use Rattle.av_cluster.specs.Clusters.{sections_of, sections_at}
use Rattle.av_inter.specs.Cut.{AreCut}
use Rattle.av_inter.proofs.Cutting.{cut_none, cut_more, cut_same, can_carve}
use Rattle.av_inter.proofs.Parts.{sections_there}
use Rattle.av_inter.proofs.parcels.carve_all.Goals as goal

pub loop-cluster-init : goal.loop-cluster-init
loop-cluster-init c =
    let g = grid c.args.world.now in let secs = sections_of c.args.clusters.now in
    record {
      cut = subst (λ (cs : List (Option Parcel)). AreCut g secs c.args.world.now cs) (sym c.requires.empty) (cut_none g secs c.requires.can c.args.world.now refl);
      count = ap length c.requires.empty;
      same = record { height = refl; positions = refl; broken = refl; lists_are = refl };
      room = refl;
    }

pub carve-requires-clause-loaded : goal.carve-requires-clause-loaded
carve-requires-clause-loaded c = λ broken.
    let g = grid c.args.world.now in let secs = sections_of c.args.clusters.now in let i = c.loop-cluster.invariant in
    let at : c.as_slice.result.now ≡ sections_at secs (length c.loop-cluster.parcels.items) =
    c.as_slice.ensures.value ∙ sections_there c.args.clusters.now c.loop-cluster.cluster-index c.cluster-item.result c.loop-cluster-test.true c.cluster-item.is ∙ ap (λ (n : ℕ). sections_at secs n) (sym i.count) in
    subst (λ (l : List SectionPos). All (λ s. IsTrue (is_here (grid c.loop-cluster.world s))) l) (sym at) (can_carve g secs c.requires.can c.loop-cluster.world c.loop-cluster.parcels.items i.cut)

pub carve-requires-clause-distinct : goal.carve-requires-clause-distinct
carve-requires-clause-distinct c = λ broken.
    let secs = sections_of c.args.clusters.now in let i = c.loop-cluster.invariant in
    let at : c.as_slice.result.now ≡ sections_at secs c.loop-cluster.cluster-index =
    c.as_slice.ensures.value ∙ sections_there c.args.clusters.now c.loop-cluster.cluster-index c.cluster-item.result c.loop-cluster-test.true c.cluster-item.is in
    subst (λ (l : List SectionPos). AllPairs (λ s t. same_section t s ≡ false) l) (sym at) (c.requires.can.once c.loop-cluster.cluster-index)

pub returns-in_default-clause-cut : goal.returns-in_default-clause-cut
returns-in_default-clause-cut c =
    cut_same (grid c.args.world.now) (sections_of c.args.clusters.now) c.requires.can c.loop-cluster.world c.carve.new.self c.loop-cluster.parcels.items c.loop-cluster.invariant.cut c.in_default.ensures.unchanged c.in_default.ensures.same

pub loop-cluster-preserved : goal.loop-cluster-preserved
loop-cluster-preserved c =
    let g = grid c.args.world.now in let secs = sections_of c.args.clusters.now in let i = c.loop-cluster.invariant in let e = c.in-Ok.ensures in
    let at : c.as_slice.result.now ≡ sections_at secs (length c.loop-cluster.parcels.items) =
    c.as_slice.ensures.value ∙ sections_there c.args.clusters.now c.loop-cluster.cluster-index c.cluster-item.result c.loop-cluster-test.true c.cluster-item.is ∙ ap (λ (n : ℕ). sections_at secs n) (sym i.count) in
    record {
      cut = subst (λ (cs : List (Option Parcel)). AreCut g secs c.carve.new.self cs) (sym c.push_reserved.ensures.items)
          (cut_more g secs c.requires.can c.loop-cluster.world c.carve.new.self c.loop-cluster.parcels.items c.in-Ok.parcel c.as_slice.result.now at i.cut e.same e.out e.nothing_aside e.part e.left);
      count = let a = c.push_reserved.ensures.len in let b = i.count in omega (arith, c.push_reserved.new.self.ok.0, c.loop-cluster.parcels.ok.0);
      same = IsSameButBlocks-trans c.args.world.now c.loop-cluster.world c.carve.new.self i.same e.same;
      room = c.push_reserved.ensures.capacity ∙ i.room;
    }
