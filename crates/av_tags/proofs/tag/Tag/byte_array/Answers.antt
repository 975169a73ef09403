use Rattle.av_tags.proofs.Views.{view_byte_array}
use Rattle.av_tags.proofs.tag.Tag.byte_array.Goals as goal

pub returns : goal.returns
returns c = view_byte_array c.args.bytes
