-- An entry that has none.
use Rattle.std.proofs.Common.{◌∙◌, sym, ap, is_some}
use Rattle.av_state.specs.BlockState.{meant}
use Rattle.av_state.specs.States.{state_of}
use Rattle.av_section.proofs.numbering.have_forms.Goals as goal
use Rattle.av_tags.proofs.Each.{list_all_fails}

pub returns-then-not-has_form : goal.returns-then-not-has_form
returns-then-not-has_form c =
    let of_item = ap (λ x. is_some (meant (state_of x))) c.entry-item.is in
    sym (list_all_fails (λ s. is_some (meant s)) state_of c.args.entries.now c.loop-entry.entry-index c.entry-item.result c.loop-entry-test.true (sym of_item ∙ sym c.has_form.ensures ∙ c.if-not-has_form.true))
