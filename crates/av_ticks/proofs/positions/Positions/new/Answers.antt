use Rattle.av_ticks.proofs.Holding.{held_none}
use Rattle.av_ticks.proofs.positions.Positions.new.Goals as goal

pub returns : goal.returns
returns c = held_none _ c.new.ensures.empty
