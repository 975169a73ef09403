use Rattle.std.proofs.Common.{◌≡◌, drop, ◌+◌}
use Rattle.std.specs.Prelude.{option_map}
use Rattle.av_tags.specs.View.{named_views}
use Rattle.av_tags.specs.ByName.{index_of_name}
use Rattle.av_tags.proofs.members.index_of.Given as goal

abbrev pub invariant-loop-index : goal.invariant-loop-index
invariant-loop-index l = option_map (λ k. l.index + k) (index_of_name l.name (named_views (drop l.index l.tags))) ≡ index_of_name l.name (named_views l.tags)
