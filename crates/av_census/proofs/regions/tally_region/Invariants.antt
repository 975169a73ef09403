use Rattle.av_census.specs.Counting.{TalliesUpTo}
use Rattle.av_census.proofs.regions.tally_region.Given as goal

abbrev pub invariant-loop-index : goal.invariant-loop-index
invariant-loop-index l = TalliesUpTo l.height l.pos l.region.bytes.now l.index l.fn.tally l.tally l.left_out
