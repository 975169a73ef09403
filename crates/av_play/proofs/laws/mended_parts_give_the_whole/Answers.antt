use Rattle.av_play.proofs.Parcels.{mended_whole}
use Rattle.av_play.proofs.laws.mended_parts_give_the_whole.Goals as goal

pub returns : goal.returns
returns c = mended_whole
