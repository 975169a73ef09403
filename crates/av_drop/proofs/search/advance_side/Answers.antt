use Rattle.av_cells.specs.Kinds.{kinds_of}
use Rattle.av_drop.proofs.Ahead.{next_is_front}
use Rattle.av_drop.proofs.Nearest.{drops_side}
use Rattle.av_drop.proofs.search.advance_side.Goals as goal

pub returns-clause-front : goal.returns-clause-front
returns-clause-front g c s n few front way = next_is_front (kinds_of c.args.kinds.now) (g.C.Cells.world c.args.cells.now) c.args.pos s n c.args.front c.advance.result.front c.advance.result.drops few (front way) c.advance.ensures.is

pub returns-clause-drops : goal.returns-clause-drops
returns-clause-drops g c s n few front =
    drops_side (kinds_of c.args.kinds.now) (g.C.Cells.world c.args.cells.now) c.args.pos s n c.args.front c.advance.result.front c.args.is_way c.advance.result.drops c.if-not-is_way.false few (front c.if-not-is_way.false) c.advance.ensures.is
