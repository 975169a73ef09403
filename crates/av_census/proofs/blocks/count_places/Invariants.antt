use Rattle.av_census.specs.Counting.{CountsMore, first_places}
use Rattle.av_census.proofs.blocks.count_places.Given as goal

abbrev pub invariant-loop-index : goal.invariant-loop-index
invariant-loop-index l = CountsMore l.fn.counts.items l.counts.items (λ table. first_places table l.section l.index) l.index
