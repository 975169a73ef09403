use Rattle.std.proofs.Common.{◌∷◌, []}
use Rattle.av_types.proofs.Exits.{on_err_from}
use Rattle.av_exchange.specs.Steps.{Synced}
use Rattle.av_exchange.specs.Outcomes.{in_part}
use Rattle.av_exchange.proofs.History.{then_steps}
use Rattle.av_exchange.proofs.moving.settle_left.Goals as goal

pub returns-in_err-settle_waiting-clause-err : goal.returns-in_err-settle_waiting-clause-err
returns-in_err-settle_waiting-clause-err g c =
    let part = c.in_err-settle_waiting.ensures.err in
    on_err_from c.from_residual-in_err-settle_waiting.result (in_part part.left part.some (then_steps _ _ _ (Synced ∷ []) part.left c.in_ok-sync.ensures.ok part.steps))
