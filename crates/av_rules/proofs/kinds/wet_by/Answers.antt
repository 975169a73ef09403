use Rattle.std.proofs.Common.{refl}
use Rattle.av_rules.proofs.kinds.wet_by.Goals as goal

pub returns-then-row : goal.returns-then-row
returns-then-row c = rw c.if-row.true refl
