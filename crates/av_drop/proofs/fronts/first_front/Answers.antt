use Rattle.av_drop.proofs.Marks.{first_marked}
use Rattle.av_drop.proofs.fronts.first_front.Goals as goal

pub returns : goal.returns
returns c i = first_marked c.empty.result c.with_if.result c.side_square.result _ c.args.passes c.side_square.ensures.is c.empty.ensures (c.with_if.ensures.here (c.empty.ensures c.side_square.result)) c.with_if.ensures.others i
