use Rattle.av_play.proofs.Parcels.{part_is_whole}
use Rattle.av_play.proofs.laws.carved_turns_are_turns.Goals as goal

pub returns : goal.returns
returns c = part_is_whole
