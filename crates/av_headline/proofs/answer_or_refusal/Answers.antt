use Rattle.av_headline.proofs.Alike.{answer_or_refusal}
use Rattle.av_headline.proofs.answer_or_refusal.Goals as goal

pub returns : goal.returns
returns c = answer_or_refusal
