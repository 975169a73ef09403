use Rattle.std.proofs.Common.{ap, sym}
use Rattle.av_tags.specs.TagTypes.{type_from}
use Rattle.av_tags.proofs.tag.TagType.from_number.Goals as goal

pub returns-in-11 : goal.returns-in-11
returns-in-11 c = sym (ap type_from c.in-11.is)
