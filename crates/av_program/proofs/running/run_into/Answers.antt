use Rattle.std.proofs.Common.{refl, Err}
use Rattle.std.proofs.lemmas.Result.{err_from_is_err_and}
use Rattle.av_program.specs.RunCommand.{HasRunInto, ran, refused, stopped}
use Rattle.av_program.proofs.running.run_into.Goals as goal

pub returns-in_err-ran : goal.returns-in_err-ran
returns-in_err-ran g c =
    let e = c.in_err-ran.field-0.0 in
    let a = g.S.Sink.account c.args.sink.now in
    let h : HasRunInto c.args.request c.args.inputs a a (Err e) = refused e c.in_err-ran.ensures refl in
    let p = err_from_is_err_and c.from_residual.result c.from_residual.ensures.1 in rw (p.1, p.2) h

pub returns-in_err-hand_over_run : goal.returns-in_err-hand_over_run
returns-in_err-hand_over_run g c =
    let r = c.in_ok-ran.ran in
    let e = c.in_err-hand_over_run.field-0.0 in
    let old = g.S.Sink.account c.args.sink.now in
    let new = g.S.Sink.account c.hand_over_run.new.sink in
    let h : HasRunInto c.args.request c.args.inputs old new (Err e) = stopped e r c.in_ok-ran.ensures c.in_err-hand_over_run.ensures.err in
    let p = err_from_is_err_and c.from_residual-in_err-hand_over_run.result c.from_residual-in_err-hand_over_run.ensures.1 in rw (p.1, p.2) h

pub returns : goal.returns
returns g c = ran c.in_ok-ran.ran c.in_ok-ran.ensures c.in_ok-hand_over_run.ensures.ok
