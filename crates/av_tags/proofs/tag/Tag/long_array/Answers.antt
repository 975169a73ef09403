use Rattle.av_tags.proofs.Views.{view_long_array}
use Rattle.av_tags.proofs.tag.Tag.long_array.Goals as goal

pub returns : goal.returns
returns c = view_long_array c.args.numbers
