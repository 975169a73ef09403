use Rattle.std.proofs.Common.{◌∙◌, ◌∷◌, []}
use Rattle.av_types.proofs.Exits.{on_err_from}
use Rattle.av_exchange.specs.Steps.{Removed, Synced, during}
use Rattle.av_exchange.specs.Names.{journal_name}
use Rattle.av_exchange.proofs.History.{no_steps, then_steps}
use Rattle.av_exchange.proofs.Crash.{all_some, none_some}
use Rattle.av_exchange.proofs.moving.drop_journal.Goals as goal

pub returns-in_err-remove-clause-err : goal.returns-in_err-remove-clause-err
returns-in_err-remove-clause-err g c =
    on_err_from c.from_residual.result (record { left = []; cut_off = during _ [] [] (none_some _); steps = c.in_err-remove.ensures.err ∙ no_steps _ })

pub returns-in_err-sync-clause-err : goal.returns-in_err-sync-clause-err
returns-in_err-sync-clause-err g c =
    on_err_from c.from_residual-in_err-sync.result
    (record { left = Removed journal_name ∷ []; cut_off = during _ [] _ (all_some _); steps = c.in_err-sync.ensures.err ∙ c.in_ok-remove.ensures.ok })

pub returns-clause-ok : goal.returns-clause-ok
returns-clause-ok g c = then_steps _ _ _ (Removed journal_name ∷ []) (Synced ∷ []) c.in_ok-remove.ensures.ok c.in_ok-sync.ensures.ok
