use Rattle.std.proofs.Common.{◌≡◌, ◌∙◌, sym, ap, map, OnOk, slice_get, None, List, subst}
use Rattle.av_state.specs.BlockState.{BlockState}
use Rattle.av_state.specs.States.{state_of}
use Rattle.av_state.specs.StateList.{number_in}
use Rattle.av_state.proofs.Numbering.{with_state-there, with_state-new}
use Rattle.av_state.proofs.index.Index.append.Goals as goal

pub returns-in-Some-clause-ok : goal.returns-in-Some-clause-ok
returns-in-Some-clause-ok c = sym (with_state-there (map state_of c.args.states.now.items) (state_of c.args.state) c.in-Some.field-0 (ap (λ xs. slice_get (map state_of xs) c.in-Some.field-0) (sym c.as_slice.ensures.value) ∙ c.in-Some.ensures.there))

pub returns-in-None-clause-ok : goal.returns-in-None-clause-ok
returns-in-None-clause-ok c =
    let old = map state_of c.args.states.now.items in
    let is_new = subst (λ xs. number_in (map state_of xs) (state_of c.args.state) ≡ None) c.as_slice.ensures.value c.in-None.ensures.absent in
    let P : List BlockState → Type 0 = λ xs. OnOk c.put.result (map state_of c.put.new.states.items ≡ xs) in
    subst P (sym (with_state-new old (state_of c.args.state) is_new)) c.put.ensures.ok
