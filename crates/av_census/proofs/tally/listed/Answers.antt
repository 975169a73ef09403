use Rattle.std.proofs.Common.{rules}
use Rattle.av_census.proofs.Adding.{counts_listed}
use Rattle.av_census.proofs.tally.listed.Goals as goal

pub returns : goal.returns
returns c = λ blocks sound all. counts_listed c.args.tally c.loop-state.counts.items blocks (search rules) c.into_iter-state-iterator.ensures.into_iter_gives.5 sound all
