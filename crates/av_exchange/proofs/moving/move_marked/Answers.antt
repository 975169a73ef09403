use Rattle.std.proofs.Common.{◌≡◌, ◌∙◌, ap, subst, sym, ◌∷◌, [], List, ℕ, is_some}
use mathlib.Core.Logic.{inl, inr}
use Rattle.av_types.proofs.Exits.{on_err_from}
use Rattle.av_exchange.specs.Steps.{IfTold, MayHaveTaken, Step, with_steps}
use Rattle.av_exchange.specs.Outcomes.{name_of}
use Rattle.av_exchange.proofs.Stepwise.{renamed_by}
use Rattle.av_exchange.proofs.moving.move_marked.Goals as goal

pub returns-in_err-there-clause-err : goal.returns-in_err-there-clause-err
returns-in_err-there-clause-err g c =
    on_err_from c.from_residual-in_err-there.result
    (subst (λ (s : Step). MayHaveTaken s (g.F.Folder.history c.args.folder.now) (g.F.Folder.history c.move_over.new.self))
    (renamed_by c.args.file.now _ _ c.as_str-part.ensures.value c.as_str-name.ensures.value) c.in_err-there.ensures.err)

pub returns-then-there-waits-clause-ok : goal.returns-then-there-waits-clause-ok
returns-then-there-waits-clause-ok g c =
    c.in_ok-there.ensures.ok ∙ ap (λ (s : Step). with_steps (g.F.Folder.history c.args.folder.now) (s ∷ []))
    (renamed_by c.args.file.now _ _ c.as_str-part.ensures.value c.as_str-name.ensures.value)

pub returns-then-there-waits-clause-there : goal.returns-then-there-waits-clause-there
returns-then-there-waits-clause-there g c =
    subst (λ (p : List ℕ). IfTold (g.F.Folder.history c.args.folder.now) (λ h. c.in_ok-there.there ≡ is_some (h p)))
    (c.as_str-part.ensures.value ∙ c.args.file.now.beside) c.in_ok-there.ensures.there

pub returns-clause-err : goal.returns-clause-err
returns-clause-err g c =
    inr (c.in_ok-there.ensures.ok ∙ ap (λ (s : Step). with_steps (g.F.Folder.history c.args.folder.now) (s ∷ []))
    (renamed_by c.args.file.now _ _ c.as_str-part.ensures.value c.as_str-name.ensures.value))
