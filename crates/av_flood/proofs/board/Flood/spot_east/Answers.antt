use Rattle.std.proofs.Common.{refl}
use Rattle.av_flood.proofs.Beside.{east_is}
use Rattle.av_flood.proofs.board.Flood.spot_east.Goals as goal

pub returns-clause-spot : goal.returns-clause-spot
returns-clause-spot c = east_is _ _ _ _ c.requires.on_board _ _ c.east.ensures refl
