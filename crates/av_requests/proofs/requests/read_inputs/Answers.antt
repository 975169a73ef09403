use Rattle.std.proofs.Common.{inl, inr}
use Rattle.std.proofs.lemmas.Result.{err_from_is_err_and}
use Rattle.av_requests.specs.Requests.{IsUnreadRun}
use Rattle.av_requests.proofs.requests.read_inputs.Goals as goal

pub returns-in_err-table-clause-unread : goal.returns-in_err-table-clause-unread
returns-in_err-table-clause-unread g c =
    let e = c.in_err-table.field-0.0 in
    let h : IsUnreadRun c.args.request e.fault = inl c.in_err-table.ensures.unread in
    let p = err_from_is_err_and c.from_residual.result c.from_residual.ensures.1 in rw (p.1, p.2) h

pub returns-in_err-edits-clause-unread : goal.returns-in_err-edits-clause-unread
returns-in_err-edits-clause-unread g c =
    let e = c.in_err-edits.field-0.0 in
    let h : IsUnreadRun c.args.request e.fault = inr (inl c.in_err-edits.ensures.unread) in
    let p = err_from_is_err_and c.from_residual-in_err-edits.result c.from_residual-in_err-edits.ensures.1 in rw (p.1, p.2) h

pub returns-in_err-files-clause-unread : goal.returns-in_err-files-clause-unread
returns-in_err-files-clause-unread g c =
    let e = c.in_err-files.field-0.0 in
    let h : IsUnreadRun c.args.request e.fault = inr (inr c.in_err-files.ensures.unread) in
    let p = err_from_is_err_and c.from_residual-in_err-files.result c.from_residual-in_err-files.ensures.1 in rw (p.1, p.2) h
