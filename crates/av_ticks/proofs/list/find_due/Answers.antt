use Rattle.std.proofs.Common.{rules}
use Rattle.av_ticks.proofs.list.find_due.Goals as goal

pub returns : goal.returns
returns c = search rules
