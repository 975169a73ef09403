use Rattle.std.proofs.Common.{◌≡◌, true, false, Some, None, cond, ap, ◌∙◌, sym, subst, rules}
use Rattle.std.proofs.lemmas.List.Sorted.{answers_always}
use Rattle.av_state.specs.BlockState.{BlockState, in_order, is_storable, storable}
use Rattle.av_state.specs.Views.{property_of, properties_of}
use Rattle.av_state.proofs.Ordered.{key_below-weak, in_order-sorted}
use Rattle.av_state.proofs.state.State.new.Goals as goal

yes : (r s : BlockState) → r ≡ s → is_storable r ≡ true → Some r ≡ storable s
yes r s e h = ap Some e ∙ sym (ap (λ b. cond b (Some s) None) (ap is_storable (sym e) ∙ h))

no : (r s : BlockState) → r ≡ s → is_storable r ≡ false → None ≡ storable s
no r s e h = sym (ap (λ b. cond b (Some s) None) (ap is_storable (sym e) ∙ h))

pub invariant_of-result : goal.invariant_of-result
invariant_of-result c =
    let e : record { name = c.as_slice.result.now; properties = properties_of c.as_slice-2.result.now } ≡ record { name = c.args.name.items; properties = properties_of c.sort_by.new.self.items } =
    λ i. record { name = c.as_slice.ensures.value i; properties = properties_of (c.as_slice-2.ensures.value i) } in
    let P : BlockState → Type 0 = λ s. is_storable s ≡ true in
    record { storable = subst P e (sym c.is_storable.ensures ∙ c.if-not-is_storable.false) }

pub returns-clause-ok : goal.returns-clause-ok
returns-clause-ok c =
    let s = c.in_ok-sort_by.ensures in
    let e : properties_of c.sort_by.new.self.items ≡ in_order (properties_of c.args.properties.items) =
    in_order-sorted property_of c.args.properties.items c.sort_by.new.self.items (s.sorted _ (key_below-weak property_of) (answers_always _ _ _ (λ f a r f' k. search rules))) (s.stable _ (key_below-weak property_of) (answers_always _ _ _ (λ f a r f' k. search rules))) in
    let here : record { name = c.as_slice.result.now; properties = properties_of c.as_slice-2.result.now } ≡ record { name = c.args.name.items; properties = properties_of c.sort_by.new.self.items } =
    λ i. record { name = c.as_slice.ensures.value i; properties = properties_of (c.as_slice-2.ensures.value i) } in
    yes _ _ (λ i. record { name = c.args.name.items; properties = e i }) (ap is_storable (sym here) ∙ sym c.is_storable.ensures ∙ c.if-not-is_storable.false)

pub returns-then-not-is_storable-clause-ok : goal.returns-then-not-is_storable-clause-ok
returns-then-not-is_storable-clause-ok c =
    let s = c.in_ok-sort_by.ensures in
    let e : properties_of c.sort_by.new.self.items ≡ in_order (properties_of c.args.properties.items) =
    in_order-sorted property_of c.args.properties.items c.sort_by.new.self.items (s.sorted _ (key_below-weak property_of) (answers_always _ _ _ (λ f a r f' k. search rules))) (s.stable _ (key_below-weak property_of) (answers_always _ _ _ (λ f a r f' k. search rules))) in
    let here : record { name = c.as_slice.result.now; properties = properties_of c.as_slice-2.result.now } ≡ record { name = c.args.name.items; properties = properties_of c.sort_by.new.self.items } =
    λ i. record { name = c.as_slice.ensures.value i; properties = properties_of (c.as_slice-2.ensures.value i) } in
    no _ _ (here ∙ (λ i. record { name = c.args.name.items; properties = e i })) (sym c.is_storable.ensures ∙ c.if-not-is_storable.true)
