use Rattle.av_exchange.proofs.GivenUp.{given_up_leaves_old_or_new}
use Rattle.av_exchange.proofs.laws.a_crash_of_one_given_up_leaves_old_or_new.Goals as goal

pub returns : goal.returns
returns c = given_up_leaves_old_or_new
