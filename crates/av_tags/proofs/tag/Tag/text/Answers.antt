use Rattle.av_tags.proofs.Views.{view_text}
use Rattle.av_tags.proofs.tag.Tag.text.Goals as goal

pub returns : goal.returns
returns c = view_text c.args.characters
