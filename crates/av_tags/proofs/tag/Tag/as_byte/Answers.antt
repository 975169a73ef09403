use Rattle.std.proofs.Common.{◌≡◌, Some, ap, sym, ◌∙◌, rules, to_z, of_z}
use Rattle.std.specs.Int.{w8}
use Rattle.av_tags.specs.Shape.{byte_of}
use Rattle.av_tags.specs.View.{view}
use Rattle.av_tags.proofs.Views.{view_byte}
use Rattle.av_tags.proofs.tag.Tag.as_byte.Goals as goal

pub returns-in-Byte : goal.returns-in-Byte
returns-in-Byte c =
    let same : to_z w8 (of_z w8 c.in-Byte.value) ≡ c.in-Byte.value = search rules in
    let seen = ap view c.in-Byte.is ∙ view_byte c.in-Byte.value in
    ap (λ z. Some z) same ∙ sym (ap byte_of seen)
