use Rattle.std.proofs.Common.{◌∙◌, ap}
use Rattle.std.proofs.lemmas.Result.{err_from_is_err_and}
use Rattle.av_sink.specs.Account.{with_commit}
use Rattle.av_outcomes.specs.Handing.{stopped_at, uncommitted}
use Rattle.av_outcomes.proofs.handing.hand_over.Goals as goal

pub returns-in_err-save_all-clause-err : goal.returns-in_err-save_all-clause-err
returns-in_err-save_all-clause-err g c =
    let p = err_from_is_err_and c.from_residual.result c.from_residual.ensures.1 in rw (p.1, p.2) (stopped_at c.in_err-save_all.ensures.err)

pub returns-in_err-commit-clause-err : goal.returns-in_err-commit-clause-err
returns-in_err-commit-clause-err g c =
    let p = err_from_is_err_and c.from_residual-in_err-commit.result c.from_residual-in_err-commit.ensures.1 in
    rw (p.1, p.2) (uncommitted (c.in_err-commit.ensures.err ∙ c.in_ok-save_all.ensures.ok) c.in_err-commit.ensures.named)

pub returns-clause-ok : goal.returns-clause-ok
returns-clause-ok g c = c.in_ok-commit.ensures.ok ∙ ap with_commit c.in_ok-save_all.ensures.ok
