use Rattle.std.proofs.Common.{◌≡◌, sym, subst, refl, Result, Ok, Err, MatchResult}
use Rattle.std.proofs.lemmas.Result.{err_from_is_err_and}
use Rattle.av_types.specs.declared.fault.Fault.{Fault}
use Rattle.av_sink.specs.Account.{Account}
use Rattle.av_reports.specs.declared.failure.Failure.{Failure}
use Rattle.av_answers.specs.declared.answers.Ran.{Ran}
use Rattle.av_requests.specs.declared.requests.Inputs.{Inputs}
use Rattle.av_requests.specs.declared.requests.Request.{Request}
use Rattle.av_outcomes.specs.Handing.{IsNotHandedOver}
use Rattle.av_program.specs.RunCommand.{HasRunInto, HasRunOver, ran, refused, stopped, read, unread, stopped_at}
use Rattle.av_program.proofs.running.run_over.Goals as goal

-- the answer of a run, whose fault is passed on as a failure
over : (q : Request) (old new : Account) (i : Inputs) (answer : Result Ran Fault) → HasRunInto q i old new answer
    → MatchResult answer (λ r. HasRunOver q old new (Ok r)) (λ e. (x : Failure) → x.fault ≡ e → HasRunOver q old new (Err x))
over q old new i _ (ran r answer files) = read i r answer files
over q old new i _ (refused e answer same) = λ x is. unread x same
over q old new i _ (stopped e r answer stops) = λ x is. stopped_at i r x answer (subst (λ (f : Fault). IsNotHandedOver q.output.now r old new f) (sym is) stops)

pub returns-in_err-inputs : goal.returns-in_err-inputs
returns-in_err-inputs g c =
    let e = c.in_err-inputs.field-0.0 in
    let a = g.S.Sink.account c.args.sink.now in
    let h : HasRunOver c.args.request a a (Err e) = unread e refl in
    let p = err_from_is_err_and c.from_residual.result c.from_residual.ensures.1 in rw (p.1, p.2) h

pub returns-in-Ok : goal.returns-in-Ok
returns-in-Ok g c =
    over c.args.request (g.S.Sink.account c.args.sink.now) (g.S.Sink.account c.run_into.new.sink) c.in_ok-inputs.inputs (Ok c.in-Ok.ran) c.in-Ok.ensures

pub returns-in-Err : goal.returns-in-Err
returns-in-Err g c =
    over c.args.request (g.S.Sink.account c.args.sink.now) (g.S.Sink.account c.failure_after.new.sink) c.in_ok-inputs.inputs (Err c.in-Err.fault)
    (subst (λ (a : Account). HasRunInto c.args.request c.in_ok-inputs.inputs (g.S.Sink.account c.args.sink.now) a (Err c.in-Err.fault)) (sym c.failure_after.ensures.same) c.in-Err.ensures)
    c.failure_after.result c.failure_after.ensures.fault
