-- One more entry is numbered, or refused.
use Rattle.std.proofs.Common.{◌≡◌, ◌∙◌, sym, ap, map, Err, length, take, arith}
use Rattle.std.proofs.lemmas.List.{length-map, length-take-le}
use Rattle.std.proofs.lemmas.Result.{err_from_is_err_and}
use Rattle.av_state.specs.BlockState.{meant}
use Rattle.av_state.specs.States.{state_of}
use Rattle.av_state.specs.Table.{states}
use Rattle.av_section.proofs.Numbers.{numbered_more, too_many, no_form, no_forms, grows_by, not_numbered}
use Rattle.av_section.proofs.numbering.number_states.Goals as goal
use Rattle.av_tags.proofs.Each.{length-each}

pub returns-then-not-have_forms-clause-err : goal.returns-then-not-have_forms-clause-err
returns-then-not-have_forms-clause-err c = no_forms (map state_of c.args.entries.now) c.have_forms.result c.have_forms.ensures c.if-not-have_forms.true

pub returns-in_err-intern-clause-err : goal.returns-in_err-intern-clause-err
returns-in_err-intern-clause-err c =
    let p = err_from_is_err_and c.from_residual-in_err-intern.result c.from_residual-in_err-intern.ensures.1 in
    let i = c.loop-entry.entry-index in
    let d = c.entry-item.result in
    let e = c.in_err-intern.field-0.0 in
    let says = c.in_err-intern.ensures in
    let fine = sym c.have_forms.ensures ∙ c.if-not-have_forms.false in
    rw (p.1, p.2) (not_numbered (map state_of c.args.entries.now) (states c.args.table.now) e
    (λ q. no_form state_of c.args.entries.now (states c.args.table.now) i d c.loop-entry-test.true (rw c.entry-item.is at (says.no_level.0 (ap Err q))))
    (λ q. too_many state_of c.args.entries.now (states c.args.table.now) i d (states c.loop-entry.table) c.loop-entry.numbers.items c.loop-entry-test.true fine c.loop-entry.invariant (rw c.entry-item.is at (says.too_many.0 (ap Err q))))
    says.memory)

pub returns-in_err-intern-clause-table : goal.returns-in_err-intern-clause-table
returns-in_err-intern-clause-table c = rw c.in_err-intern.ensures.unchanged (grows_by (states c.args.table.now) (states c.loop-entry.table) c.loop-entry.invariant.forms c.loop-entry.invariant.states)

pub returns-in_err-push-clause-table : goal.returns-in_err-push-clause-table
returns-in_err-push-clause-table c =
    let more = numbered_more state_of c.args.entries.now (states c.args.table.now) c.loop-entry.entry-index c.entry-item.result (states c.loop-entry.table) (states c.intern.new.self) c.loop-entry.numbers.items _ c.loop-entry-test.true c.loop-entry.invariant (rw c.entry-item.is at c.in_ok-intern.ensures.ok) in
    grows_by (states c.args.table.now) (states c.intern.new.self) more.forms more.states

pub loop-entry-preserved : goal.loop-entry-preserved
loop-entry-preserved c =
    rw c.in_ok-push.ensures.items (numbered_more state_of c.args.entries.now (states c.args.table.now) c.loop-entry.entry-index c.entry-item.result (states c.loop-entry.table) (states c.intern.new.self) c.loop-entry.numbers.items _ c.loop-entry-test.true c.loop-entry.invariant (rw c.entry-item.is at c.in_ok-intern.ensures.ok))

pub returns-clause-table : goal.returns-clause-table
returns-clause-table c = grows_by (states c.args.table.now) (states c.loop-entry.table) c.loop-entry.invariant.forms c.loop-entry.invariant.states

pub returns-clause-many : goal.returns-clause-many
returns-clause-many c =
    let n = c.loop-entry.invariant in
    let all : c.loop-entry.entry-index ≡ length c.args.entries.now = omega arith in
    n.count ∙ length-each meant (map state_of (take c.loop-entry.entry-index c.args.entries.now)) n.forms n.forms_are ∙ length-map (take c.loop-entry.entry-index c.args.entries.now) state_of
    ∙ length-take-le c.loop-entry.entry-index c.args.entries.now (omega arith) ∙ all
