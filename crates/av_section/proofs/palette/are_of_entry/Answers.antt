-- A tag that is none of an entry.
use Rattle.std.proofs.Common.{◌∙◌, sym, ap}
use Rattle.av_tags.specs.View.{named_view}
use Rattle.av_section.specs.Palette.{is_of_entry}
use Rattle.av_section.proofs.palette.are_of_entry.Goals as goal
use Rattle.av_tags.proofs.Each.{list_all_fails}

pub returns-then-not-is_of_entry : goal.returns-then-not-is_of_entry
returns-then-not-is_of_entry c =
    let of_item = ap (λ x. is_of_entry (named_view x)) c.named-item.is in
    sym (list_all_fails is_of_entry named_view c.args.tags.now c.loop-named.named-index c.named-item.result c.loop-named-test.true (sym of_item ∙ sym c.is_of_entry.ensures ∙ c.if-not-is_of_entry.true))
