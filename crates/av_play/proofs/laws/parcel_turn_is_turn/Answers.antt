use Rattle.av_play.proofs.Joined.{parcel_turned}
use Rattle.av_play.proofs.laws.parcel_turn_is_turn.Goals as goal

pub returns : goal.returns
returns c = parcel_turned
