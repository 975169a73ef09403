-- One more property, or a tag that is none.
use Rattle.std.proofs.Common.{◌∙◌, sym, ap}
use Rattle.std.proofs.lemmas.List.{map-append}
use Rattle.std.proofs.lemmas.Result.{err_from_is_err_and}
use Rattle.av_tags.specs.View.{named_view}
use Rattle.av_state.specs.Views.{property_of, properties_of}
use Rattle.av_section.specs.Palette.{property_in}
use Rattle.av_section.proofs.Refusals.{IsNoPalette-whole}
use Rattle.av_section.proofs.palette.properties.Goals as goal
use Rattle.av_tags.proofs.Each.{each_more, each_none}

pub returns-in_err-property-clause-err : goal.returns-in_err-property-clause-err
returns-in_err-property-clause-err c =
    let p = err_from_is_err_and c.from_residual.result c.from_residual.ensures.1 in
    let t = c.named-item.result in
    let none = each_none property_in named_view c.args.tags.now c.loop-named.named-index t c.loop-named-test.true in
    let of_item = ap (λ x. property_in (named_view x)) c.named-item.is in
    rw (p.1, p.2) (IsNoPalette-whole _ _ c.in_err-property.field-0.0 (λ e. none (sym of_item ∙ e)) c.in_err-property.ensures.err)

pub loop-named-preserved : goal.loop-named-preserved
loop-named-preserved c =
    let t = c.named-item.result in
    let of_item = ap (λ x. property_in (named_view x)) c.named-item.is in
    let more = each_more property_in named_view c.args.tags.now c.loop-named.named-index t (properties_of c.loop-named.found.items) (property_of c.in_ok-property.field-0) c.loop-named-test.true c.loop-named.invariant (sym of_item ∙ c.in_ok-property.ensures.ok) in
    rw (c.in_ok-push.ensures.items, map-append) more
