use Rattle.std.proofs.Common.{refl}
use Rattle.av_flood.proofs.Beside.{below_is}
use Rattle.av_flood.proofs.board.Flood.spot_below.Goals as goal

pub returns-clause-spot : goal.returns-clause-spot
returns-clause-spot c = below_is _ _ _ _ c.requires.on_board _ _ c.below.ensures refl
