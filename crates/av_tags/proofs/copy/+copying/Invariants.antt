-- What was copied is what was gone over.
use Rattle.std.proofs.Common.{◌≡◌, take}
use Rattle.av_tags.specs.View.{views, named_views}
use Rattle.av_tags.proofs.copy.+copying.Given as goal

abbrev pub invariant-copy_items-loop-item : goal.invariant-copy_items-loop-item
invariant-copy_items-loop-item l = views l.copies.items ≡ views (take l.item-index l.items)

abbrev pub invariant-copy_members-loop-named : goal.invariant-copy_members-loop-named
invariant-copy_members-loop-named l = named_views l.copies.items ≡ named_views (take l.named-index l.tags)
