use Rattle.av_water.proofs.Inside.{turn_kept}
use Rattle.av_water.proofs.laws.turn_writes_its_loaded_reach.Goals as goal

pub returns : goal.returns
returns c = turn_kept
