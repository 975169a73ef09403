use Rattle.std.proofs.Common.{◌≡◌, ◌∙◌, ◌∷◌, [], subst, List, ℕ}
use Rattle.av_types.proofs.Exits.{on_err_from}
use Rattle.av_exchange.specs.Steps.{Spoiled, with_steps}
use Rattle.av_exchange.specs.Outcomes.{spoiled}
use Rattle.av_exchange.proofs.exchange.stage.Goals as goal

pub returns-in_err-write_new-clause-err : goal.returns-in_err-write_new-clause-err
returns-in_err-write_new-clause-err g c =
    let left = c.in_err-write_new.ensures.err in
    on_err_from c.from_residual-in_err-write_new.result
    (spoiled left.0 (subst (λ (p : List ℕ). g.F.Folder.history c.write_new.new.self ≡ with_steps (g.F.Folder.history c.args.folder.now) (Spoiled p left.0 ∷ []))
    (c.as_str.ensures.value ∙ c.in_ok-part.ensures) left.1))
