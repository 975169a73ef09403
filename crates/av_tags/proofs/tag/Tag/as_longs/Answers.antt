use Rattle.std.proofs.Common.{Some, ap, sym, ◌∙◌}
use Rattle.av_tags.specs.Shape.{longs_of}
use Rattle.av_tags.specs.View.{view}
use Rattle.av_tags.proofs.Views.{view_long_array}
use Rattle.av_tags.proofs.tag.Tag.as_longs.Goals as goal

pub returns-in-LongArray : goal.returns-in-LongArray
returns-in-LongArray c =
    let seen = ap view c.in-LongArray.is ∙ view_long_array c.in-LongArray.longs in
    ap (λ zs. Some zs) c.as_slice.ensures.value ∙ sym (ap longs_of seen)
