use Rattle.std.proofs.Common.{◌≡◌, drop}
use Rattle.av_tags.specs.View.{views}
use Rattle.av_codec.specs.Working.{has_other}
use Rattle.av_codec.proofs.reading.shape.has_other.Given as goal

abbrev pub invariant-loop-item : goal.invariant-loop-item
invariant-loop-item l = has_other (views (drop l.item-index l.items)) ≡ has_other (views l.items)
