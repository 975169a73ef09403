use Rattle.av_headline.proofs.Alike.{one_answer}
use Rattle.av_headline.proofs.one_answer.Goals as goal

pub returns : goal.returns
returns c = one_answer
