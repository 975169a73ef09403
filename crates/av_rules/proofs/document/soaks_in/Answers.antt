use Rattle.std.proofs.Common.{ap, sym}
use Rattle.av_rules.specs.Document.{soaks_in}
use Rattle.av_rules.proofs.document.soaks_in.Goals as goal

pub returns-in-One : goal.returns-in-One
returns-in-One c = ap soaks_in (sym c.in-One.is)
