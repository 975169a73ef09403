use Rattle.std.proofs.Common.{◌≡◌, ◌∙◌, ap, subst, ◌∷◌, [], Option, map}
use Rattle.av_exchange.specs.Steps.{History, IfTold, all_of, with_steps}
use Rattle.av_exchange.specs.Exchange.{AreTaken, renamed}
use Rattle.av_exchange.specs.Outcomes.{name_of}
use Rattle.av_exchange.proofs.Committed.{looked_at, looked_away}
use Rattle.av_exchange.proofs.moving.settle_recorded.Goals as goal

pub returns-in-Err-clause-err : goal.returns-in-Err-clause-err
returns-in-Err-clause-err g c = looked_away _ _ _ _ _ c.look_behind.ensures c.withdraw.ensures

pub returns-in-Ok-clause-ok : goal.returns-in-Ok-clause-ok
returns-in-Ok-clause-ok g c =
    c.in-Ok.ensures.ok ∙ ap (λ (t : Option History). with_steps t (all_of (map renamed (map name_of c.args.moves.now) ∷ []))) c.look_behind.ensures

pub returns-in-Ok-clause-taken : goal.returns-in-Ok-clause-taken
returns-in-Ok-clause-taken g c =
    subst (λ (t : Option History). IfTold t (AreTaken (map name_of c.args.moves.now))) c.look_behind.ensures c.in-Ok.ensures.taken

pub returns-in-Err-settle-clause-err : goal.returns-in-Err-settle-clause-err
returns-in-Err-settle-clause-err g c = looked_at _ _ _ _ c.look_behind.ensures c.in-Err-settle.ensures.err
