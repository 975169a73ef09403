use Rattle.std.proofs.Common.{◌≡◌, ◌<◌, ◌≤◌, ◌∙◌, ◌++◌, ◌∷◌, [], length, map, set, ap, sym, subst, arith, OnErr, Ok, Err}
use Rattle.std.specs.List.{insert}
use Rattle.std.proofs.lemmas.List.{length-map}
use Rattle.av_state.specs.States.{state_of}
use Rattle.av_state.specs.Index.{told, slot_of, FindsStates}
use Rattle.av_state.proofs.Placing.{finds-taken, finds-left, no_rank}
use Rattle.av_state.proofs.Seated.{took, left}
use Rattle.av_state.proofs.index.Index.seat.Goals as goal

pub returns-then-take-clause-ok : goal.returns-then-take-clause-ok
returns-then-take-clause-ok c =
    let i = c.args.self.now in
    let states = map state_of c.args.states.now in
    let has = took i.slots c.take.new.self c.args.fingerprint _ c.take.result c.take.ensures.slot c.if-take.true in
    let n : length c.args.states.now ≡ length states = omega (arith, length-map c.args.states.now state_of) in
    let free : length states < told i.slots c.args.fingerprint = omega (arith, has.0, n) in
    let e : c.take.new.self.numbers.items ≡ set i.slots.numbers.items (slot_of i.slots c.args.fingerprint) (length states) = has.1 ∙ ap (set i.slots.numbers.items (slot_of i.slots c.args.fingerprint)) n in
    finds-taken states i.fingerprints.items i.order.items i.slots c.requires.index (state_of c.args.state.now) c.args.fingerprint c.take.new.self c.requires.fingerprint c.take.ensures.shift free e

pub rank-requires-clause-index : goal.rank-requires-clause-index
rank-requires-clause-index c =
    let i = c.args.self.now in
    let has = left i.slots c.take.new.self c.args.fingerprint _ c.take.result c.take.ensures.slot c.if-take.false in
    subst (λ s. FindsStates (map state_of c.args.states.now) i.fingerprints.items s i.order.items) (sym has.1) c.requires.index

pub returns-in_err-insert-in-Err-clause-unchanged : goal.returns-in_err-insert-in-Err-clause-unchanged
returns-in_err-insert-in-Err-clause-unchanged c =
    let i = c.args.self.now in
    let has = left i.slots c.take.new.self c.args.fingerprint _ c.take.result c.take.ensures.slot c.if-take.false in
    let order : c.insert.new.self.items ≡ i.order.items = c.in_err-insert-in-Err.ensures.items in
    let finds = subst (λ s. FindsStates (map state_of c.args.states.now) i.fingerprints.items s i.order.items) (sym has.1) c.requires.index in
    let same = subst (λ xs. FindsStates (map state_of c.args.states.now) i.fingerprints.items c.take.new.self xs) (sym order) finds in
    elim c.from_residual.result as (λ r. OnErr r (FindsStates (map state_of c.args.states.now) i.fingerprints.items c.take.new.self c.insert.new.self.items)) [ Ok _ ↦ tt | Err _ ↦ same ]

pub returns-in-Ok-clause-ok : goal.returns-in-Ok-clause-ok
returns-in-Ok-clause-ok c =
    let i = c.args.self.now in
    absurd (no_rank (map state_of c.args.states.now) i.fingerprints.items i.order.items i.slots c.requires.index (state_of c.args.state.now) c.args.fingerprint c.requires.fingerprint c.in-Ok.field-0 c.requires.is_new c.in-Ok.ensures)

pub returns-in_ok-insert-in-Err-clause-ok : goal.returns-in_ok-insert-in-Err-clause-ok
returns-in_ok-insert-in-Err-clause-ok c =
    let i = c.args.self.now in
    let states = map state_of c.args.states.now in
    let has = left i.slots c.take.new.self c.args.fingerprint _ c.take.result c.take.ensures.slot c.if-take.false in
    let n : length c.args.states.now ≡ length states = omega (arith, length-map c.args.states.now state_of) in
    let low : told i.slots c.args.fingerprint ≤ length states = omega (arith, has.0, n) in
    let order : c.insert.new.self.items ≡ insert i.order.items c.in-Err.rank (length states) = c.in_ok-insert-in-Err.ensures.items ∙ ap (insert i.order.items c.in-Err.rank) n in
    let finds = finds-left states i.fingerprints.items i.order.items i.slots c.requires.index (state_of c.args.state.now) c.in-Err.rank c.in-Err.ensures c.args.fingerprint c.take.new.self c.requires.fingerprint c.take.ensures.shift low (ap (λ s. s.numbers.items) has.1) in
    subst (λ xs. FindsStates (states ++ state_of c.args.state.now ∷ []) (i.fingerprints.items ++ c.args.fingerprint ∷ []) c.take.new.self xs) (sym order) finds
