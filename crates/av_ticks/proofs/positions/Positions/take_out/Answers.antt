-- The place of the position is no longer marked.
use Rattle.av_ticks.proofs.Holding.{held_out}
use Rattle.av_ticks.proofs.positions.Positions.take_out.Goals as goal

pub returns : goal.returns
returns c =
    let here = rw (c.own_key.ensures, c.place.ensures) at c.unmark.ensures.here in
    let others = rw c.own_key.ensures at c.unmark.ensures.others in
    held_out c.args.self.now _ c.args.pos here others
