use Rattle.std.proofs.Common.{◌≡◌, drop}
use Rattle.av_tags.specs.View.{named_views}
use Rattle.av_nbt.specs.Reading.{has_name}
use Rattle.av_nbt.proofs.distinct.has_name.Given as goal

abbrev pub invariant-loop-named : goal.invariant-loop-named
invariant-loop-named l = has_name l.name (named_views (drop l.named-index l.tags)) ≡ has_name l.name (named_views l.tags)
