use Rattle.std.proofs.Common.{◌≡◌, ℕ}
use Rattle.std.proofs.lemmas.List.Elements.{same_from_all_zip}
use Rattle.av_state.proofs.state.PropertyClone.clone.Goals as goal

pub returns : goal.returns
returns c =
    let key = same_from_all_zip (λ (x y : ℕ). y ≡ x) _ _ c.in_ok-clone.ensures.cases.0 (λ x y e. e) in
    let value = same_from_all_zip (λ (x y : ℕ). y ≡ x) _ _ c.in_ok-clone-2.ensures.cases.0 (λ x y e. e) in
    record { cases = λ i. record { key = key i; value = value i } }
