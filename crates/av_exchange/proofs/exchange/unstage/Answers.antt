use Rattle.std.proofs.Common.{◌≡◌, ◌∙◌, ◌∷◌, [], subst, List, ℕ}
use Rattle.av_exchange.specs.Steps.{Removed, with_steps}
use Rattle.av_exchange.proofs.exchange.unstage.Goals as goal

pub returns-clause-ok : goal.returns-clause-ok
returns-clause-ok g c =
    subst (λ (p : List ℕ). g.F.Folder.history c.remove.new.self ≡ with_steps (g.F.Folder.history c.args.folder.now) (Removed p ∷ []))
    (c.as_str.ensures.value ∙ c.in_ok-part.ensures) c.in_ok-remove.ensures.ok
