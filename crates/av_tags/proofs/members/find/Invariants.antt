use Rattle.std.proofs.Common.{◌≡◌, drop}
use Rattle.av_tags.specs.View.{named_views}
use Rattle.av_tags.specs.ByName.{tag_of}
use Rattle.av_tags.proofs.members.find.Given as goal

abbrev pub invariant-loop-named : goal.invariant-loop-named
invariant-loop-named l = tag_of l.name (named_views (drop l.named-index l.tags)) ≡ tag_of l.name (named_views l.tags)
