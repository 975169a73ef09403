-- One more property.
use Rattle.std.proofs.Common.{◌∙◌, sym, ap}
use Rattle.std.proofs.lemmas.List.{map-append}
use Rattle.av_tags.specs.View.{named_view}
use Rattle.av_tags.proofs.Each.{each_more}
use Rattle.av_state.specs.Texts.{property_told, properties_told}
use Rattle.av_section.specs.Palette.{property_in}
use Rattle.av_section.proofs.known.read_texts.Goals as goal

pub loop-named-preserved : goal.loop-named-preserved
loop-named-preserved c =
    let t = c.named-item.result in
    let of_item = ap (λ x. property_in (named_view x)) c.named-item.is in
    let more = each_more property_in named_view c.args.tags.now c.loop-named.named-index t (properties_told c.loop-named.texts.items) (property_told c.in-Some.text) c.loop-named-test.true c.loop-named.invariant (sym of_item ∙ sym c.in-Some.ensures) in
    rw (c.in_ok-push.ensures.items, map-append) more
