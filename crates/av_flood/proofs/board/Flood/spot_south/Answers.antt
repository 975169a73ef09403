use Rattle.std.proofs.Common.{refl}
use Rattle.av_flood.proofs.Beside.{south_is}
use Rattle.av_flood.proofs.board.Flood.spot_south.Goals as goal

pub returns-clause-spot : goal.returns-clause-spot
returns-clause-spot c = south_is _ _ _ _ c.requires.on_board _ _ c.south.ensures refl
