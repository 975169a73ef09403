use Rattle.std.proofs.Common.{rules}
use Rattle.av_tags.proofs.tag.TagType.number.Goals as goal

pub returns : goal.returns
returns c = search rules
