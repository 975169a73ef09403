use Rattle.std.proofs.Common.{sym, ◌∙◌}
use Rattle.av_rules.proofs.document.is_built_in.Goals as goal

pub returns-else-eq : goal.returns-else-eq
returns-else-eq c = rw (sym c.eq.ensures ∙ c.if-eq.false) c.eq-else-eq.ensures
