-- One more property, or a text that is none.
use Rattle.std.proofs.Common.{◌∙◌, sym, ap, ◌≡◌, None}
use Rattle.std.proofs.lemmas.List.{map-append}
use Rattle.std.specs.Option.{option_map}
use Rattle.av_state.specs.Views.{property_of, properties_of}
use Rattle.av_edits.specs.Lines.{property_in}
use Rattle.av_edits.proofs.words.each_property.Goals as goal
use Rattle.av_tags.proofs.Each.{each_more, each_none}

pub returns-in-None : goal.returns-in-None
returns-in-None c =
    let f : option_map property_of c.in_ok-property_in.field-0 ≡ None = ap (option_map property_of) c.in-None.is in
    let e = c.in_ok-property_in.ensures in
    sym (each_none property_in (λ x. x.now) c.args.texts.now c.loop-text.text-index _ c.loop-text-test.true (sym e ∙ f))

pub loop-text-preserved : goal.loop-text-preserved
loop-text-preserved c =
    let f = ap (option_map property_of) c.in-Some.is in
    let more = each_more property_in (λ x. x.now) c.args.texts.now c.loop-text.text-index _ (properties_of c.loop-text.all.items) (property_of c.in-Some.property) c.loop-text-test.true c.loop-text.invariant (sym c.in_ok-property_in.ensures ∙ f) in
    rw (c.in_ok-push-in-Some.ensures.items, map-append) more
