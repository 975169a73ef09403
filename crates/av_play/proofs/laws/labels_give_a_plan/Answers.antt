use Rattle.av_play.proofs.Groups.{labels_plan}
use Rattle.av_play.proofs.laws.labels_give_a_plan.Goals as goal

pub returns : goal.returns
returns c = labels_plan
