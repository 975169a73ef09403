use Rattle.av_land.proofs.Idle.{other_edits}
use Rattle.av_land.proofs.own_edits.Goals as goal

pub returns : goal.returns
returns c = other_edits
