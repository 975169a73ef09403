use Rattle.std.proofs.Common.{◌∙◌, ap, sym, [], map, string_bytes}
use Rattle.av_types.proofs.Exits.{on_err_from}
use Rattle.av_exchange.specs.Steps.{Removed, ended, with_steps}
use Rattle.av_exchange.proofs.History.{no_steps}
use Rattle.av_exchange.proofs.Crash.{all_some}
use Rattle.av_exchange.proofs.Stepwise.{sweep_part}
use Rattle.av_exchange.proofs.Swept.{none_at_all, none_behind}
use Rattle.av_exchange.proofs.repairing.sweep.Goals as goal

pub returns-in_err-names-clause-err : goal.returns-in_err-names-clause-err
returns-in_err-names-clause-err g c =
    on_err_from c.from_residual.result (record { gone = []; beside = tt; stopped = record { left = []; cut_off = ended; steps = no_steps _ } })

pub returns-in_err-beside-clause-err : goal.returns-in_err-beside-clause-err
returns-in_err-beside-clause-err g c =
    on_err_from c.from_residual-in_err-beside.result (record { gone = []; beside = tt; stopped = record { left = []; cut_off = ended; steps = no_steps _ } })

pub returns-in_err-sync-clause-err : goal.returns-in_err-sync-clause-err
returns-in_err-sync-clause-err g c =
    let gone = map string_bytes c.in_ok-beside.beside.items in
    on_err_from c.from_residual-in_err-sync.result (record {
      gone = gone;
      beside = c.in_ok-beside.ensures.beside;
      stopped = record { left = map Removed gone; cut_off = sweep_part gone _ (all_some _); steps = c.in_err-sync.ensures.err ∙ (c.in_ok-remove_all.ensures.ok ∙ ap (λ (xs : _). with_steps (g.F.Folder.history c.args.folder.now) (map Removed (map string_bytes xs))) c.as_slice.ensures.value) };
    })

pub returns-then-is_empty-clause-gone : goal.returns-then-is_empty-clause-gone
returns-then-is_empty-clause-gone g c =
    none_at_all _ (map string_bytes c.in_ok-names.names.items) c.in_ok-beside.beside.items _ c.in_ok-names.ensures c.in_ok-beside.ensures.all
    c.in_ok-beside.beside.ok.0 (sym c.is_empty.ensures ∙ c.if-is_empty.true)

pub returns-clause-gone : goal.returns-clause-gone
returns-clause-gone g c =
    none_behind (g.F.Folder.history c.args.folder.now) _ _ (map string_bytes c.in_ok-names.names.items) (map string_bytes c.in_ok-beside.beside.items) _
    c.in_ok-names.ensures c.in_ok-beside.ensures.all (ap (map string_bytes) c.as_slice.ensures.value) c.in_ok-remove_all.ensures.ok c.in_ok-sync.ensures.ok
