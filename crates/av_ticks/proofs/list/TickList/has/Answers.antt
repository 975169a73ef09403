use Rattle.av_ticks.proofs.list.TickList.has.Goals as goal

pub returns : goal.returns
returns c = c.has.ensures
