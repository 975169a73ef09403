use Rattle.std.proofs.Common.{◌≡◌, length}
use Rattle.av_tags.specs.View.{named_views}
use Rattle.av_nbt.specs.Reading.{are_distinct}
use Rattle.av_nbt.proofs.distinct.are_distinct_by_pairs.Given as goal

abbrev pub invariant-loop-first : goal.invariant-loop-first
invariant-loop-first l = are_distinct (named_views l.rest) ≡ are_distinct (named_views l.fn.tags)

abbrev pub decreases-loop-first : goal.decreases-loop-first
decreases-loop-first l = length l.rest
