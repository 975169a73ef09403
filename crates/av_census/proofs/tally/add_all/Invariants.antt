use Rattle.std.proofs.Common.{take}
use Rattle.av_state.specs.Table.{states}
use Rattle.av_census.specs.Counting.{Tallies, weighed}
use Rattle.av_census.proofs.tally.add_all.Given as goal

abbrev pub invariant-loop-number : goal.invariant-loop-number
invariant-loop-number l = Tallies l.fn.tally l.tally (λ s. weighed s (take l.number (states l.table)) (take l.number l.counts))
