use Rattle.std.proofs.Common.{◌≡◌, ◌∷◌, []}
use Rattle.av_types.proofs.Exits.{err_from}
use Rattle.av_exchange.specs.Steps.{Moved, Synced, Written}
use Rattle.av_exchange.specs.Names.{journal_name, new_journal_name}
use Rattle.av_exchange.proofs.History.{then_steps}
use Rattle.av_exchange.proofs.Stepwise.{unrecorded}
use Rattle.av_exchange.proofs.recording.record.Goals as goal

pub returns-in_err-name_synced-clause-err : goal.returns-in_err-name_synced-clause-err
returns-in_err-name_synced-clause-err g c =
    err_from c.from_residual.result _ _ c.from_residual.ensures.1 (unrecorded _ _ _ c.args.text.now _ c.in_default.ensures.ok c.in_err-name_synced.ensures.err)

pub returns-clause-ok : goal.returns-clause-ok
returns-clause-ok g c =
    then_steps _ _ _ (Written new_journal_name c.args.text.now ∷ Synced ∷ []) (Moved new_journal_name journal_name ∷ Synced ∷ [])
    c.in_default.ensures.ok c.in_ok-name_synced.ensures.ok
