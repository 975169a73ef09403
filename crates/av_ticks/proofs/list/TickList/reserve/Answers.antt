use Rattle.av_ticks.proofs.list.TickList.reserve.Goals as goal

pub returns-clause-ok : goal.returns-clause-ok
returns-clause-ok c = c.in_ok-reserve.ensures.ok
