use Rattle.std.proofs.Common.{◌-◌, [], IsTrue, All, refl, drop, sym, subst, arith}
use Rattle.std.proofs.lemmas.List.Elements.{All-take, All-drop}
use Rattle.av_types.specs.declared.tick.Entry.{Entry}
use Rattle.av_world.specs.Lands.{land_of}
use Rattle.av_world.specs.Views.{blocks, positions_of}
use Rattle.av_groups.specs.Groups.{entries_in}
use Rattle.av_groups.specs.declared.groups.Group.{Group}
use Rattle.av_groups.specs.declared.groups.Groups.{Groups}
use Rattle.av_groups.specs.Open.{IsOpen, IsGathered, AreClosed}
use Rattle.av_groups.proofs.Closed.{are_closed, open_anew, all_cut}
use Rattle.av_groups.proofs.cutting.cut.Goals as goal

pub loop-from-init : goal.loop-from-init
loop-from-init c = record {
  within = omega arith;
  closed = subst (λ gs. AreClosed (land_of c.args.world.now) c.as_slice-all.result.now 0 gs c.in_ok-last.last.items) (sym c.new-groups.ensures.items) (c.in_ok-last.ensures c.as_slice-all.result.now);
}

pub touches_of-requires-clause-loaded : goal.touches_of-requires-clause-loaded
touches_of-requires-clause-loaded c =
    let loaded : Entry → Type 0 = λ e. IsTrue ((blocks c.args.world.now).loaded e.pos) in
    let from = c.loop-from.from in
    All-take loaded (c.stretch_end-to.result - from) (drop from c.as_slice-all.result.now) (All-drop loaded from c.as_slice-all.result.now (subst (All loaded) (sym c.as_slice-all.ensures.value) c.requires))

pub touches_of-requires-clause-none : goal.touches_of-requires-clause-none
touches_of-requires-clause-none c =
    subst (λ gs. IsOpen (positions_of c.args.world.now) gs c.loop-from.marks.last.items []) (sym c.as_slice-closed.ensures.value)
    (open_anew (land_of c.args.world.now) c.as_slice-all.result.now c.loop-from.from c.loop-from.groups.items c.loop-from.marks.last.items c.loop-from.invariant.closed)

pub loop-from-preserved : goal.loop-from-preserved
loop-from-preserved c =
    let w = land_of c.args.world.now in
    let es = c.as_slice-all.result.now in
    let old = c.loop-from.groups.items in
    let last = c.touches_of.new.marks.last.items in
    let further = c.stretch_end-to.ensures.further in
    let g : Group = record { from = c.loop-from.from; to = c.stretch_end-to.result; touches = c.in_ok-touches.touches } in
    let gathered : IsGathered w old last (entries_in es g) g.touches.items = subst (λ gs. IsGathered w gs last (entries_in es g) g.touches.items) c.as_slice-closed.ensures.value c.in_ok-touches.ensures in
    record {
      within = c.stretch_end-to.ensures.bound;
      closed = subst (λ gs. AreClosed w es g.to gs last) (sym c.in_ok-push.ensures.items)
          (are_closed w es c.loop-from.from old c.loop-from.marks.last.items last g c.loop-from.invariant.closed refl (omega (arith, further)) c.stretch_end-to.ensures.bound gathered);
    }

pub returns-clause-groups : goal.returns-clause-groups
returns-clause-groups c =
    let gs : Groups = record { entries = c.args.entries; groups = c.loop-from.groups; last = c.loop-from.marks.last } in
    all_cut (land_of c.args.world.now) gs c.loop-from.from (rw (sym c.as_slice-all.ensures.value) (omega (arith, c.loop-from-test.false)))
    (subst (λ es. AreClosed (land_of c.args.world.now) es c.loop-from.from c.loop-from.groups.items c.loop-from.marks.last.items) c.as_slice-all.ensures.value c.loop-from.invariant.closed)

pub returns-clause-exact : goal.returns-clause-exact
returns-clause-exact c = c.loop-from.invariant.closed.exact
