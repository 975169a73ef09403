-- Working definitions. No public clause cites them.
-- For how many tags of a List memory is asked before the first is read.
use Rattle.std.specs.Prelude.{ℕ, ◌/◌, min, nat_lt, if◌then◌else◌}
use Rattle.av_tags.specs.declared.tag.TagType.{TagType}
use Rattle.av_tags.specs.declared.tag.TagType.TheVariants as tag_type
use Rattle.av_tags.specs.TagTypes.{is_end}

-- the fewest bytes of a tag of a type
abbrev pub least_size : TagType → ℕ
least_size tag_type.End = 1
least_size tag_type.Byte = 1
least_size tag_type.Short = 2
least_size tag_type.Int = 4
least_size tag_type.Long = 8
least_size tag_type.Float = 4
least_size tag_type.Double = 8
least_size tag_type.ByteArray = 4
least_size tag_type.Text = 2
least_size tag_type.List = 5
least_size tag_type.Compound = 1
least_size tag_type.IntArray = 4
least_size tag_type.LongArray = 4

-- as many as the List says, 64 at most, and none where its share of the bytes left can't hold all that it says
abbrev pub room_for : TagType → ℕ → ℕ → ℕ
room_for k count share = if is_end k then 0 else if nat_lt (share / least_size k) count then 0 else min count 64
