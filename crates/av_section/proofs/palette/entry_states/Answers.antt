-- One more state, or an entry that is none.
use Rattle.std.proofs.Common.{◌∙◌, sym, ap, map}
use Rattle.std.proofs.lemmas.List.{map-append}
use Rattle.std.proofs.lemmas.Result.{err_from_is_err_and}
use Rattle.av_tags.specs.View.{view}
use Rattle.av_state.specs.States.{state_of}
use Rattle.av_section.specs.Palette.{state_in}
use Rattle.av_section.proofs.Refusals.{IsNoPalette-whole}
use Rattle.av_section.proofs.palette.entry_states.Goals as goal
use Rattle.av_tags.proofs.Each.{each_more, each_none}

pub returns-in_err-state-clause-err : goal.returns-in_err-state-clause-err
returns-in_err-state-clause-err c =
    let p = err_from_is_err_and c.from_residual.result c.from_residual.ensures.1 in
    let none = each_none state_in view c.args.entries.now c.loop-entry.entry-index c.entry-item.result c.loop-entry-test.true in
    let of_item = ap (λ x. state_in (view x)) c.entry-item.is in
    rw (p.1, p.2) (IsNoPalette-whole _ _ c.in_err-state.field-0.0 (λ e. none (sym of_item ∙ e)) c.in_err-state.ensures.err)

pub loop-entry-preserved : goal.loop-entry-preserved
loop-entry-preserved c =
    let of_item = ap (λ x. state_in (view x)) c.entry-item.is in
    let more = each_more state_in view c.args.entries.now c.loop-entry.entry-index c.entry-item.result (map state_of c.loop-entry.found.items) (state_of c.in_ok-state.field-0) c.loop-entry-test.true c.loop-entry.invariant (sym of_item ∙ c.in_ok-state.ensures.ok) in
    rw (c.in_ok-push.ensures.items, map-append) more
