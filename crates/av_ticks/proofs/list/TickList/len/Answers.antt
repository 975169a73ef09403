use Rattle.std.proofs.Common.{ap, length}
use Rattle.av_ticks.proofs.list.TickList.len.Goals as goal

pub returns : goal.returns
returns c = ap length c.as_slice.ensures
