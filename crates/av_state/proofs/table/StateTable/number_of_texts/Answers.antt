-- Sorted by their keys the properties are those in order.
use Rattle.std.proofs.Common.{◌≡◌, ap, ◌∙◌, option_and_then, rules}
use Rattle.std.proofs.lemmas.List.Sorted.{answers_always}
use Rattle.av_state.specs.BlockState.{BlockState, in_order, meant, storable}
use Rattle.av_state.specs.StateList.{number_in}
use Rattle.av_state.specs.Table.{states}
use Rattle.av_state.specs.Texts.{property_told, properties_told}
use Rattle.av_state.proofs.Ordered.{key_below-weak, in_order-sorted}
use Rattle.av_state.proofs.table.StateTable.number_of_texts.Goals as goal

pub returns-clause-value : goal.returns-clause-value
returns-clause-value c =
    let s = c.in_ok-sort_by.ensures in
    let old = c.args.properties.now.items in
    let e : properties_told c.sort_by.new.self.items ≡ in_order (properties_told old) =
    in_order-sorted property_told old c.sort_by.new.self.items (s.sorted _ (key_below-weak property_told) (answers_always _ _ _ (λ f a r f' k. search rules))) (s.stable _ (key_below-weak property_told) (answers_always _ _ _ (λ f a r f' k. search rules))) in
    let named : BlockState → _ = λ b. option_and_then (number_in (states c.args.self.now)) (option_and_then meant (storable b)) in
    let here : properties_told c.as_slice.result.now ≡ in_order (properties_told old) = ap properties_told c.as_slice.ensures.value ∙ e in
    c.number_of_text.ensures ∙ ap named (λ i. record { name = c.args.name.now; properties = here i })
