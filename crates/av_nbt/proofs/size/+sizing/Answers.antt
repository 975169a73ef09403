use Rattle.std.proofs.Common.{◌≡◌, ◌∙◌, ap, arith}
use Rattle.av_tags.specs.Nbt.{int_array, long_array}
use Rattle.av_tags.specs.View.{view}
use Rattle.av_nbt.proofs.Sizes.{ints_size, longs_size}
use Rattle.av_tags.proofs.Views.{view_int_array, view_long_array}
use Rattle.av_nbt.proofs.size.+sizing.Goals as goal

pub tag_size-returns-in-IntArray : goal.tag_size-returns-in-IntArray
tag_size-returns-in-IntArray t c =
    let seen : view c.args.tag.now ≡ int_array c.in-IntArray.ints.items = ap view c.in-IntArray.is ∙ view_int_array c.in-IntArray.ints in
    rw seen (omega (arith, ints_size c.in-IntArray.ints.items, c.len-in-IntArray.ensures, c.saturating_mul.ensures, c.saturating_add-in-IntArray.ensures))

pub tag_size-returns-in-LongArray : goal.tag_size-returns-in-LongArray
tag_size-returns-in-LongArray t c =
    let seen : view c.args.tag.now ≡ long_array c.in-LongArray.longs.items = ap view c.in-LongArray.is ∙ view_long_array c.in-LongArray.longs in
    rw seen (omega (arith, longs_size c.in-LongArray.longs.items, c.len-in-LongArray.ensures, c.saturating_mul-in-LongArray.ensures, c.saturating_add-in-LongArray.ensures))
