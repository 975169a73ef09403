use Rattle.av_play.proofs.Waiting.{turns_fresh}
use Rattle.av_play.proofs.laws.entries_made_are_new.Goals as goal

pub returns : goal.returns
returns c = turns_fresh
