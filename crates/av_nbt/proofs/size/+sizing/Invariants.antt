-- The bytes of the tags that were counted and of those that are left.
use Rattle.std.proofs.Common.{◌≡◌, ◌<◌, ◌+◌, ◌^◌, drop, length}
use Rattle.av_tags.specs.Nbt.{items_of, members_of}
use Rattle.av_tags.specs.View.{views, named_views}
use Rattle.av_nbt.specs.Writing.{written_items, written_members}
use Rattle.av_nbt.specs.Size.{capped}
use Rattle.av_nbt.proofs.size.+sizing.Given as goal

abbrev pub invariant-items_size-loop-item : goal.invariant-items_size-loop-item
invariant-items_size-loop-item l =
    (capped (l.size + length (written_items (items_of (views (drop l.item-index l.items))))) ≡ capped (length (written_items (items_of (views l.items)))))
    × (l.size < 2 ^ 64)

abbrev pub invariant-members_size-loop-named : goal.invariant-members_size-loop-named
invariant-members_size-loop-named l = capped (l.size + length (written_members (members_of (named_views (drop l.named-index l.members))))) ≡ capped (length (written_members (members_of (named_views l.members))))
