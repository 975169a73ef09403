use Rattle.std.proofs.Common.{◌≡◌, vec_len}
use Rattle.av_tags.specs.View.{named_views}
use Rattle.av_tags.specs.ByName.{without}
use Rattle.av_tags.proofs.members.remove.Given as goal

abbrev pub invariant-loop-other : goal.invariant-loop-other
invariant-loop-other l = without l.name (named_views l.tags.items) ≡ without l.name (named_views l.fn.tags.items)

abbrev pub decreases-loop-other : goal.decreases-loop-other
decreases-loop-other l = vec_len l.tags
