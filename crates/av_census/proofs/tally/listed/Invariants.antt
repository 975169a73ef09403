use Rattle.std.proofs.Common.{◌≡◌, ◌++◌, map}
use Rattle.av_census.proofs.Adding.{count_in}
use Rattle.av_census.proofs.tally.listed.Given as goal

abbrev pub invariant-loop-state : goal.invariant-loop-state
invariant-loop-state l = l.counts.items ++ map count_in l.state-iterator ≡ map count_in l.fn.tally.entries
