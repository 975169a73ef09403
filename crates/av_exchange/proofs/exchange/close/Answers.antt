use Rattle.std.proofs.Common.{◌∷◌, []}
use Rattle.av_exchange.specs.Steps.{Removed, Synced}
use Rattle.av_exchange.specs.Names.{journal_name}
use Rattle.av_exchange.proofs.History.{then_steps}
use Rattle.av_exchange.proofs.exchange.close.Goals as goal

pub returns-in-Ok-clause-ok : goal.returns-in-Ok-clause-ok
returns-in-Ok-clause-ok g c = then_steps _ _ _ (Removed journal_name ∷ []) (Synced ∷ []) c.in_ok-remove.ensures.ok c.in-Ok.ensures.ok
