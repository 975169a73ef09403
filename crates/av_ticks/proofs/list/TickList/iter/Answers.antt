use Rattle.std.proofs.Common.{rules}
use Rattle.av_ticks.proofs.list.TickList.iter.Goals as goal

pub returns-clause-rest : goal.returns-clause-rest
returns-clause-rest c = search rules
