use Rattle.std.proofs.Common.{◌∙◌, ap, sym, refl, subst, All, List, inl, inr}
use Rattle.std.specs.List.Sorted.{IsNonDecreasingBy}
use Rattle.std.proofs.lemmas.List.Sorted.{All-permutation}
use Rattle.av_types.proofs.Exits.{on_err_from}
use Rattle.av_rules.specs.Kinds.{kind_count}
use Rattle.av_cells.specs.Kinds.{kinds_of}
use Rattle.av_land.specs.Tick.{run, run_count}
use Rattle.av_land.proofs.Idle.{run_by_ticks}
use Rattle.av_world.specs.Lands.{land_of}
use Rattle.av_edits.specs.declared.edit.Edit.{Edit}
use Rattle.av_edits.specs.Numbered.{number_sets}
use Rattle.av_serial.specs.Ready.{CanApply}
use Rattle.av_serial.specs.Schedule.{tick_of}
use Rattle.av_serial.proofs.runs.run_ticks_with.Goals as goal

pub run_sorted-requires-clause-edits : goal.run_sorted-requires-clause-edits
run_sorted-requires-clause-edits g c =
    let P = CanApply (kind_count c.args.kinds.now) c.args.world.now in
    subst (λ (es : List Edit). All P es) (sym c.as_slice.ensures.value)
    (All-permutation P c.args.edits.now c.in_ok-sorted.sorted.items c.in_ok-sorted.ensures.permutation (c.requires.edits (sym c.broken.ensures ∙ c.if-broken.false)))

pub run_sorted-requires-clause-sorted : goal.run_sorted-requires-clause-sorted
run_sorted-requires-clause-sorted g c = subst (λ (es : List Edit). IsNonDecreasingBy tick_of es) (sym c.as_slice.ensures.value) c.in_ok-sorted.ensures.sorted

pub returns-clause-done : goal.returns-clause-done
returns-clause-done g c =
    let k = kinds_of c.args.kinds.now in let w = land_of c.args.world.now in
    let same = run_by_ticks k (number_sets c.in_ok-sorted.sorted.items) (number_sets c.args.edits.now) c.args.n w c.in_ok-sorted.ensures.same in
    c.in_ok-run_sorted.ensures.done ∙ (ap (λ (es : List Edit). run k (number_sets es) c.args.n w) c.as_slice.ensures.value ∙ same.world)

pub returns-clause-count : goal.returns-clause-count
returns-clause-count g c =
    let k = kinds_of c.args.kinds.now in let w = land_of c.args.world.now in
    let same = run_by_ticks k (number_sets c.in_ok-sorted.sorted.items) (number_sets c.args.edits.now) c.args.n w c.in_ok-sorted.ensures.same in
    c.in_ok-run_sorted.ensures.count ∙ (ap (λ (es : List Edit). run_count k (number_sets es) c.args.n w) c.as_slice.ensures.value ∙ same.count)

pub returns-in_err-run_sorted-clause-stands : goal.returns-in_err-run_sorted-clause-stands
returns-in_err-run_sorted-clause-stands g c = on_err_from _ (inr c.in_err-run_sorted.ensures.broken)

pub returns-in_err-sorted-clause-stands : goal.returns-in_err-sorted-clause-stands
returns-in_err-sorted-clause-stands g c = on_err_from _ (inl refl)
