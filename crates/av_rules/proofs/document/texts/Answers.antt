use Rattle.std.proofs.Common.{◌≡◌, List, sym, subst}
use Rattle.std.specs.Map.Iter.{deref_pair}
use Rattle.std.proofs.lemmas.Map.Iter.{rest_more}
use Rattle.toml.specs.View.{members_view}
use Rattle.av_state.specs.Views.{properties_of}
use Rattle.av_state.specs.declared.state.Property.{Property as PropertyValue}
use Rattle.av_rules.specs.Document.{texts_of}
use Rattle.av_rules.proofs.Fronts.{with_front, texts_more}
use Rattle.av_rules.proofs.document.texts.Goals as goal

pub loop-key-preserved : goal.loop-key-preserved
loop-key-preserved c =
    let e = rest_more deref_pair c.loop-key.key-iterator c.next.new.self c.next.result (c.in-Some.key, c.in-Some.value) c.in-Some.is c.next.ensures.steps in
    let h = texts_more c.loop-key.properties.items c.in_ok-property.field-0 c.loop-key.key-iterator c.next.new.self c.in-Some.key.now c.in-Some.value.now _ _ _ e c.as_str-in-loop-key.ensures.value (sym c.in-Some-as_str.ensures) c.in_ok-property.ensures c.loop-key.invariant in
    let P : List PropertyValue → Type 0 = λ ps. with_front (properties_of ps) (texts_of (members_view c.next.new.self)) ≡ texts_of (members_view c.args.table.now.entries) in
    subst P (sym c.in_ok-push.ensures.items) h
