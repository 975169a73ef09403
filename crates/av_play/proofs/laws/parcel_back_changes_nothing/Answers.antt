use Rattle.av_play.proofs.Joined.{parcel_back}
use Rattle.av_play.proofs.laws.parcel_back_changes_nothing.Goals as goal

pub returns : goal.returns
returns c = parcel_back
