use Rattle.av_water.proofs.Inside.{turn_made}
use Rattle.av_water.proofs.laws.entries_lie_in_reach.Goals as goal

pub returns : goal.returns
returns c = turn_made
