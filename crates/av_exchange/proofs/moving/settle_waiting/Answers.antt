use Rattle.std.proofs.Common.{◌∙◌, map}
use Rattle.av_types.proofs.Exits.{on_err_from}
use Rattle.av_exchange.specs.Exchange.{renamed}
use Rattle.av_exchange.specs.Outcomes.{name_of}
use Rattle.av_exchange.proofs.Crash.{all_some}
use Rattle.av_exchange.proofs.moving.settle_waiting.Goals as goal

pub returns-in_err-sync-clause-err : goal.returns-in_err-sync-clause-err
returns-in_err-sync-clause-err g c =
    on_err_from c.from_residual-in_err-sync.result (record {
      left = map renamed (map name_of c.args.moves.now);
      some = all_some _;
      steps = c.in_err-sync.ensures.err ∙ c.in_ok-move_waiting.ensures.ok;
    })
