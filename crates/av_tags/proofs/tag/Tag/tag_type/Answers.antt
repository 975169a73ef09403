use Rattle.std.proofs.Common.{ap, sym, ◌∙◌}
use Rattle.av_tags.specs.Nbt.{tag_type_of}
use Rattle.av_tags.specs.View.{view}
use Rattle.av_tags.proofs.Views.{view_int_array}
use Rattle.av_tags.proofs.tag.Tag.tag_type.Goals as goal

pub returns-in-IntArray : goal.returns-in-IntArray
returns-in-IntArray c = sym (ap tag_type_of (ap view c.in-IntArray.is ∙ view_int_array c.in-IntArray.field-0))
