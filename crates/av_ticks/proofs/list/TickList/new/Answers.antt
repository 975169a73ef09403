use Rattle.av_ticks.proofs.list.TickList.new.Goals as goal

pub returns : goal.returns
returns c = c.new.ensures
