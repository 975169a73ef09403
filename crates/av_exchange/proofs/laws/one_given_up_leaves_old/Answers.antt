use Rattle.av_exchange.proofs.GivenUp.{given_up_leaves_old}
use Rattle.av_exchange.proofs.laws.one_given_up_leaves_old.Goals as goal

pub returns : goal.returns
returns c = given_up_leaves_old
