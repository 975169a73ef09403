use Rattle.av_groups.proofs.Apart.{turned_apart}
use Rattle.av_groups.proofs.turns_stay_in_their_part.Goals as goal

pub returns : goal.returns
returns c = turned_apart
