use Rattle.std.proofs.Common.{Some, ap, sym, ◌∙◌}
use Rattle.av_tags.specs.Shape.{text_of}
use Rattle.av_tags.specs.View.{view}
use Rattle.av_tags.proofs.Views.{view_text}
use Rattle.av_tags.proofs.tag.Tag.as_text.Goals as goal

pub returns-in-Text : goal.returns-in-Text
returns-in-Text c =
    let seen = ap view c.in-Text.is ∙ view_text c.in-Text.bytes in
    ap (λ s. Some s) c.as_slice.ensures.value ∙ sym (ap text_of seen)
