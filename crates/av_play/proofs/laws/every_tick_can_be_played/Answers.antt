use Rattle.av_play.proofs.Existence.{can_end}
use Rattle.av_play.proofs.laws.every_tick_can_be_played.Goals as goal

pub returns : goal.returns
returns c = can_end
