-- One more number can be set, and the others still can.
use Rattle.std.proofs.Common.{◌≡◌, ◌<◌, length, get_or, inl, inr, arith, subst, sym, ap, ◌∙◌}
use Rattle.std.proofs.lemmas.Bool.{cases_lt}
use Rattle.std.proofs.lemmas.List.{get_or_default}
use Rattle.av_section.specs.Section.{CanSet}
use Rattle.av_section.proofs.Keeps.{KeepsPlaces-trans}
use Rattle.av_section.proofs.section.Section.prepare_each.Goals as goal

pub loop-number-preserved : goal.loop-number-preserved
loop-number-preserved c = record {
  same = KeepsPlaces-trans _ _ _ c.loop-number.invariant.same c.in_ok-prepare_one.ensures.same;
  prepared = λ k d low. elim (cases_lt k c.loop-number.number-index) [
    | inl before ↦ c.in_ok-prepare_one.ensures.same.prepared _ (c.loop-number.invariant.prepared k d before)
    | inr after ↦ (
        let here : k ≡ c.loop-number.number-index = omega arith in
        let within : c.loop-number.number-index < length c.args.numbers.now = omega arith in
        let number = get_or_default c.args.numbers.now c.loop-number.number-index 0 d within ∙ ap (λ i. get_or c.args.numbers.now i d) (sym here) in
        subst (CanSet c.prepare_one.new.self) number c.in_ok-prepare_one.ensures.ok)
  ];
}
