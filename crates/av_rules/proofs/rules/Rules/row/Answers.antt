use Rattle.std.proofs.Common.{refl, sym, ◌∙◌}
use Rattle.av_rules.proofs.rules.Rules.row.Goals as goal

pub returns-then-is_air : goal.returns-then-is_air
returns-then-is_air c = rw (sym c.is_air.ensures ∙ c.if-is_air.true) refl
