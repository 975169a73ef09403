use Rattle.std.proofs.Common.{◌≡◌, ◌∙◌, ◌≤◌, ap, sym, length, map, Some, option_map, slice_get, refl, arith}
use Rattle.std.proofs.lemmas.Bool.{false≢true, ltb-true}
use Rattle.std.proofs.lemmas.List.{length-map}
use Rattle.std.proofs.lemmas.Option.{slice_get-map, slice_get_read, slice_get_within, same_Some}
use Rattle.av_state.specs.States.{state_of}
use Rattle.av_state.proofs.Numbering.{state-Decides}
use Rattle.av_state.proofs.index.has_number.Goals as goal

pub returns-in-Some-clause-yes : goal.returns-in-Some-clause-yes
returns-in-Some-clause-yes g c h =
    let states = c.args.states.now in
    let s = g.T.Sought.sought c.args.sought.now in
    let there : slice_get states c.args.number ≡ Some c.in-Some.state.now = slice_get_read states (length states) c.args.number c.in-Some.state.now refl (ltb-true c.args.number (length states) (sym c.in-Some.ensures.lookup.0)) c.in-Some.ensures.lookup.1 in
    slice_get-map state_of states c.args.number ∙ ap (option_map state_of) there ∙ ap Some (sym ((state-Decides s (state_of c.in-Some.state.now)).0 (sym c.is.ensures ∙ h)))

pub returns-in-Some-clause-no : goal.returns-in-Some-clause-no
returns-in-Some-clause-no g c h e =
    let states = c.args.states.now in
    let s = g.T.Sought.sought c.args.sought.now in
    let there : slice_get states c.args.number ≡ Some c.in-Some.state.now = slice_get_read states (length states) c.args.number c.in-Some.state.now refl (ltb-true c.args.number (length states) (sym c.in-Some.ensures.lookup.0)) c.in-Some.ensures.lookup.1 in
    let is : s ≡ state_of c.in-Some.state.now = same_Some s (state_of c.in-Some.state.now) (sym e ∙ slice_get-map state_of states c.args.number ∙ ap (option_map state_of) there) in
    false≢true (sym h ∙ c.is.ensures ∙ (state-Decides s (state_of c.in-Some.state.now)).1 is)

pub returns-in-None-clause-no : goal.returns-in-None-clause-no
returns-in-None-clause-no g c h e =
    let states = c.args.states.now in
    let s = g.T.Sought.sought c.args.sought.now in
    let low = slice_get_within (map state_of states) c.args.number s e in
    let high : length states ≤ c.args.number = omega (arith, c.in-None.ensures.lookup) in
    omega (arith, low, high, length-map states state_of)
