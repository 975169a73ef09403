use Rattle.av_headline.proofs.Alike.{one_refusal}
use Rattle.av_headline.proofs.one_refusal.Goals as goal

pub returns : goal.returns
returns c = one_refusal
