use Rattle.std.proofs.Common.{sym}
use Rattle.av_tags.proofs.Views.{tag_in_view}
use Rattle.av_tags.proofs.tag.Named.into_tag.Goals as goal

pub returns : goal.returns
returns c = sym (tag_in_view c.args.self)
