use Rattle.std.proofs.Common.{Err, map, false, true≢false, sym}
use Rattle.std.proofs.lemmas.Result.{err_from_is_err_and}
use Rattle.av_image.specs.Views.{file_in}
use Rattle.av_answers.specs.Answer.{IsRunAnswer}
use Rattle.av_answers.specs.Checked.{IsDone, IsUncovered}
use Rattle.av_run.proofs.checked.run.Goals as goal

pub returns-in_err-outcome : goal.returns-in_err-outcome
returns-in_err-outcome g c =
    let e = c.in_err-outcome.field-0.0 in
    let h : IsRunAnswer (map file_in c.args.files.items) c.args.table.now c.args.edits.now c.args.ticks c.args.workers (Err e) = c.in_err-outcome.ensures in
    let p = err_from_is_err_and c.from_residual.result c.from_residual.ensures.1 in rw (p.1, p.2) h

pub unreachable-requires : goal.unreachable-requires
unreachable-requires g c =
    let uncovered : IsUncovered (map file_in c.args.files.items) c.args.table.now c.args.edits.now c.args.ticks c.args.workers false c.in-Uncovered.field-0 = rw c.in-Uncovered.is at c.in_ok-outcome.ensures in
    true≢false (sym uncovered.asked)

pub returns : goal.returns
returns g c =
    let done : IsDone (map file_in c.args.files.items) c.args.table.now c.args.edits.now c.args.ticks c.args.workers false c.in-Done.outcome c.in-Done.without_row = rw c.in-Done.is at c.in_ok-outcome.ensures in
    done.answer
