use Rattle.av_types.proofs.Exits.{on_err_from}
use Rattle.av_exchange.proofs.Stepwise.{stopped_sweeping}
use Rattle.av_exchange.proofs.repairing.repair.Goals as goal

pub returns-in_err-removed-clause-err : goal.returns-in_err-removed-clause-err
returns-in_err-removed-clause-err g c =
    on_err_from c.from_residual-in_err-removed.result (stopped_sweeping _ _ _ c.in_ok-finished.finished c.in_ok-finished.ensures.ok c.in_err-removed.ensures.err)
