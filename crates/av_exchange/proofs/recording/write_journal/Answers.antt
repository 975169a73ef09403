use Rattle.std.proofs.Common.{◌≡◌, ◌∷◌, [], refl, subst, List, ℕ}
use Rattle.av_types.proofs.Exits.{on_err_from}
use Rattle.av_exchange.specs.Steps.{Synced, Written, with_steps}
use Rattle.av_exchange.specs.Names.{new_journal, new_journal_name}
use Rattle.av_exchange.proofs.History.{then_steps}
use Rattle.av_exchange.proofs.recording.write_journal.Goals as goal

pub returns-clause-ok : goal.returns-clause-ok
returns-clause-ok g c =
    subst (λ (t : List ℕ). g.F.Folder.history c.sync.new.self
    ≡ with_steps (g.F.Folder.history c.args.folder.now) (Written new_journal_name t ∷ Synced ∷ []))
    c.as_bytes.ensures.value
    (then_steps _ _ _ (Written new_journal_name c.as_bytes.result.now ∷ []) (Synced ∷ []) c.in_ok-write_new.ensures.ok c.in_ok-sync.ensures.ok)
