use Rattle.std.proofs.Common.{refl}
use Rattle.av_flood.proofs.Beside.{west_is}
use Rattle.av_flood.proofs.board.Flood.spot_west.Goals as goal

pub returns-clause-spot : goal.returns-clause-spot
returns-clause-spot c = west_is _ _ _ _ c.requires.on_board _ _ c.west.ensures refl
