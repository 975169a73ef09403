use Rattle.std.proofs.Common.{◌≡◌, take, map}
use Rattle.av_tags.specs.View.{named_views}
use Rattle.av_nbt.proofs.distinct.names_of.Given as goal

abbrev pub invariant-loop-named : goal.invariant-loop-named
invariant-loop-named l = map (λ b. b.now) l.names.items ≡ map (λ m. m.name) (named_views (take l.named-index l.tags))
