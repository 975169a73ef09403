use Rattle.std.proofs.Common.{ap, sym, ◌∙◌}
use Rattle.av_tags.specs.Shape.{text_of}
use Rattle.av_tags.specs.View.{view}
use Rattle.av_tags.proofs.Views.{view_text}
use Rattle.av_tags.proofs.tag.Tag.into_text.Goals as goal

pub returns-in-Text : goal.returns-in-Text
returns-in-Text c = sym (ap text_of (ap view c.in-Text.is ∙ view_text c.in-Text.bytes))
