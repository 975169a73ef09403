use Rattle.std.proofs.Common.{◌≡◌, ℕ, sym, subst, true}
use Rattle.std.proofs.lemmas.List.Elements.{same_from_all_zip}
use Rattle.av_state.specs.BlockState.{BlockState, is_storable}
use Rattle.av_state.specs.Views.{property_of, properties_of}
use Rattle.av_state.specs.States.{state_of}
use Rattle.av_state.proofs.Lists.{AllZip-views}
use Rattle.av_state.proofs.state.StateClone.clone.Goals as goal

pub invariant_of-result : goal.invariant_of-result
invariant_of-result c =
    let e : properties_of c.in_ok-clone-2.field-0.items ≡ properties_of c.args.self.now.properties.items = AllZip-views property_of _ _ c.in_ok-clone-2.ensures.cases.0 in
    let f : c.in_ok-clone.field-0.items ≡ c.args.self.now.name.items = same_from_all_zip (λ (x y : ℕ). y ≡ x) _ _ c.in_ok-clone.ensures.cases.0 (λ x y e. e) in
    let same : state_of c.args.self.now ≡ record { name = c.in_ok-clone.field-0.items; properties = properties_of c.in_ok-clone-2.field-0.items } = λ i. record { name = (sym f) i; properties = (sym e) i } in
    let P : BlockState → Type 0 = λ s. is_storable s ≡ true in
    record { storable = subst P same c.args.self.now.storable }

pub returns : goal.returns
returns c =
    let e : properties_of c.in_ok-clone-2.field-0.items ≡ properties_of c.args.self.now.properties.items = AllZip-views property_of _ _ c.in_ok-clone-2.ensures.cases.0 in
    let f : c.in_ok-clone.field-0.items ≡ c.args.self.now.name.items = same_from_all_zip (λ (x y : ℕ). y ≡ x) _ _ c.in_ok-clone.ensures.cases.0 (λ x y e. e) in
    record { cases = λ i. record { name = f i; properties = e i } }
