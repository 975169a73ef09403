use Rattle.std.proofs.Common.{ap}
use Rattle.av_rules.specs.Document.{flag_or_false}
use Rattle.av_rules.proofs.document.flag_or_false.Goals as goal

pub returns-in-None : goal.returns-in-None
returns-in-None c = ap flag_or_false c.in-None.ensures
