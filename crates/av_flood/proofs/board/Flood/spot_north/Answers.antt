use Rattle.std.proofs.Common.{refl}
use Rattle.av_flood.proofs.Beside.{north_is}
use Rattle.av_flood.proofs.board.Flood.spot_north.Goals as goal

pub returns-clause-spot : goal.returns-clause-spot
returns-clause-spot c = north_is _ _ _ _ c.requires.on_board _ _ c.north.ensures refl
