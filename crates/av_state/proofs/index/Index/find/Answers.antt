use Rattle.std.proofs.Common.{◌∙◌, map, ap, slice_get, arith}
use Rattle.std.proofs.lemmas.List.{length-map}
use Rattle.av_state.specs.States.{state_of}
use Rattle.av_state.proofs.Placing.{absent_free, absent_in_both}
use Rattle.av_state.proofs.index.Index.find.Goals as goal

pub returns-then-first-clause-absent : goal.returns-then-first-clause-absent
returns-then-first-clause-absent g c =
    let i = c.args.self.now in
    absent_free (map state_of c.args.states.now) i.fingerprints.items i.order.items i.slots c.requires.index (g.T.Sought.sought c.args.sought.now) c.fingerprint-fingerprint.result c.fingerprint-fingerprint.ensures (omega (arith, c.requires.few, length-map c.args.states.now state_of)) (omega (arith, c.told-first.ensures, c.if-first.true))

pub returns-in-Err-clause-absent : goal.returns-in-Err-clause-absent
returns-in-Err-clause-absent g c =
    let i = c.args.self.now in
    let states = map state_of c.args.states.now in
    let s = g.T.Sought.sought c.args.sought.now in
    absent_in_both states i.fingerprints.items i.order.items i.slots c.requires.index s c.fingerprint-fingerprint.result c.fingerprint-fingerprint.ensures c.in-Err.field-0 c.in-Err.ensures (λ is. c.has_number.ensures.no c.if-has_number.false (ap (slice_get states) c.told-first.ensures ∙ is))
