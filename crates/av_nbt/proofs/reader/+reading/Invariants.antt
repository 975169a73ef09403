-- How far reading has come, and that each call goes down by a level or by a step of the format.
use Rattle.std.proofs.Common.{◌≡◌, length, ◌+◌, ◌-◌, ◌*◌}
use Rattle.av_tags.specs.View.{views, named_views}
use Rattle.av_nbt.specs.Reading.{until_end, payload_at, repeat_at, with_front}
use Rattle.av_nbt.proofs.reader.+reading.Given as goal

abbrev pub decreases-payload : goal.decreases-payload
decreases-payload l = 5 * l.depth

abbrev pub decreases-items : goal.decreases-items
decreases-items l = 5 * l.depth + 1

abbrev pub decreases-named : goal.decreases-named
decreases-named l = 5 * l.depth + 1

abbrev pub decreases-named_tags : goal.decreases-named_tags
decreases-named_tags l = 5 * l.depth + 2

abbrev pub decreases-members : goal.decreases-members
decreases-members l = 5 * l.depth + 3

abbrev pub decreases-list : goal.decreases-list
decreases-list l = 5 * l.depth + 4

abbrev pub decreases-compound : goal.decreases-compound
decreases-compound l = 5 * l.depth + 4

abbrev pub invariant-items-loop : goal.invariant-items-loop
invariant-items-loop l = with_front (views l.items.items) (repeat_at (payload_at l.depth l.tag_type) (l.count - l.counter) l.rest) ≡ repeat_at (payload_at l.depth l.tag_type) l.count l.bytes

abbrev pub invariant-named_tags-loop : goal.invariant-named_tags-loop
invariant-named_tags-loop l = with_front (named_views l.tags.items) (until_end (payload_at l.depth) (length l.bytes - l.counter) l.rest) ≡ until_end (payload_at l.depth) (length l.bytes) l.bytes
