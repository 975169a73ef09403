use Rattle.av_tags.proofs.Views.{view_compound}
use Rattle.av_tags.proofs.tag.Tag.compound.Goals as goal

pub returns : goal.returns
returns c = view_compound c.args.tags
