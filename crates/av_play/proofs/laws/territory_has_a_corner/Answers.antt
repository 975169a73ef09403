use Rattle.av_play.proofs.Corners.{by_corners}
use Rattle.av_play.proofs.laws.territory_has_a_corner.Goals as goal

pub returns : goal.returns
returns c = by_corners
