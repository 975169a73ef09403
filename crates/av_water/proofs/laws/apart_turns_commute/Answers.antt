use Rattle.av_water.proofs.Apart.{apart_commute}
use Rattle.av_water.proofs.laws.apart_turns_commute.Goals as goal

pub returns : goal.returns
returns c = apart_commute
