use Rattle.std.proofs.Common.{refl}
use Rattle.av_rules.proofs.rules.Rules.height.Goals as goal

pub returns-clause-lowest : goal.returns-clause-lowest
returns-clause-lowest c = refl

pub returns-clause-sections : goal.returns-clause-sections
returns-clause-sections c = refl
