use Rattle.av_tags.proofs.Views.{view_list}
use Rattle.av_tags.proofs.tag.Tag.list.Goals as goal

pub returns : goal.returns
returns c = view_list c.args.tag_type c.args.items
