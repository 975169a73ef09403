use Rattle.std.proofs.Common.{rules}
use Rattle.av_nbt.specs.Reading.{type_at}
use Rattle.av_nbt.proofs.fields.tag_type.Goals as goal

pub returns-in_default : goal.returns-in_default
unfolding type_at
returns-in_default c = search rules
