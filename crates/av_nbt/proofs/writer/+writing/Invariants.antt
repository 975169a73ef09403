-- What was written and what is left to write, and that the tags left fit.
use Rattle.std.proofs.Common.{◌≡◌, ◌++◌, drop}
use Rattle.av_tags.specs.Nbt.{items_of, members_of}
use Rattle.av_tags.specs.View.{views, named_views}
use Rattle.av_nbt.specs.Writing.{written_items, written_members, FitItems, FitMembers}
use Rattle.av_nbt.proofs.writer.+writing.Given as goal

abbrev pub invariant-write_items-loop-item : goal.invariant-write_items-loop-item
invariant-write_items-loop-item l =
    (l.out.items ++ written_items (items_of (views (drop l.item-index l.items))) ≡ l.fn.out.items ++ written_items (items_of (views l.items)))
    × FitItems (items_of (views (drop l.item-index l.items)))

abbrev pub invariant-write_members-loop-named : goal.invariant-write_members-loop-named
invariant-write_members-loop-named l =
    (l.out.items ++ written_members (members_of (named_views (drop l.named-index l.members))) ≡ l.fn.out.items ++ written_members (members_of (named_views l.members)))
    × FitMembers (members_of (named_views (drop l.named-index l.members)))
