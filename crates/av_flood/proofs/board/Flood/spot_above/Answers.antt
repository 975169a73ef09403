use Rattle.std.proofs.Common.{refl}
use Rattle.av_flood.proofs.Beside.{above_is}
use Rattle.av_flood.proofs.board.Flood.spot_above.Goals as goal

pub returns-clause-spot : goal.returns-clause-spot
returns-clause-spot c = above_is _ _ _ _ c.requires.on_board _ _ c.above.ensures refl
