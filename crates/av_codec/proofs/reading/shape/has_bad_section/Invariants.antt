use Rattle.std.proofs.Common.{◌≡◌, drop, List, [], ℤ}
use Rattle.av_tags.specs.View.{views}
use Rattle.av_codec.specs.Working.{are_bad_items, Noted}
use Rattle.av_codec.proofs.reading.shape.has_bad_section.Given as goal

abbrev pub invariant-loop-item : goal.invariant-loop-item
invariant-loop-item l = (before : List ℤ) × Noted before l.seen × (are_bad_items l.height before (views (drop l.item-index l.items)) ≡ are_bad_items l.height [] (views l.items))
