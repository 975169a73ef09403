use Rattle.av_tags.specs.Nbt.{Nbt, NamedTag}
use Rattle.av_tags.specs.View.{view_step, named_step}
use Rattle.av_tags.specs.declared.tag.Tag.TheFolds.{fold_out-Named}
use Rattle.av_tags.proofs.tag.Named.new.Goals as goal

pub returns : goal.returns
returns c = fold_out-Named Nbt NamedTag view_step named_step _
