use Rattle.std.proofs.Common.{◌≡◌, ◌∙◌, ◌∷◌, [], subst, List, ℕ}
use mathlib.Core.Logic.{inl, inr}
use Rattle.av_types.proofs.Exits.{on_err_from}
use Rattle.av_exchange.specs.Steps.{MayHaveTaken, Moved, Synced, with_steps}
use Rattle.av_exchange.proofs.History.{then_steps}
use Rattle.av_exchange.proofs.exchange.commit_alone.Goals as goal

pub returns-clause-ok : goal.returns-clause-ok
returns-clause-ok g c =
    subst (λ (p : List ℕ). g.F.Folder.history c.sync.new.self ≡ with_steps (g.F.Folder.history c.args.folder.now) (Moved p c.args.name.now ∷ Synced ∷ []))
    (c.as_str.ensures.value ∙ c.in_ok-part.ensures)
    (then_steps _ _ _ (Moved c.as_str.result.now c.args.name.now ∷ []) (Synced ∷ []) c.in_ok-there.ensures.ok c.in_ok-sync.ensures.ok)

pub returns-in_err-there-clause-err : goal.returns-in_err-there-clause-err
returns-in_err-there-clause-err g c =
    on_err_from c.from_residual-in_err-there.result
    (subst (λ (p : List ℕ). MayHaveTaken (Moved p c.args.name.now) (g.F.Folder.history c.args.folder.now) (g.F.Folder.history c.move_over.new.self))
    (c.as_str.ensures.value ∙ c.in_ok-part.ensures) c.in_err-there.ensures.err)
