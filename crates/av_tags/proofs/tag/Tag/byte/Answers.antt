use Rattle.std.proofs.Common.{ap, ◌∙◌, to_z, of_z}
use Rattle.std.proofs.Math.Facts.{to_z-of_z}
use Rattle.std.specs.Int.{w8}
use Rattle.av_tags.specs.Nbt.{byte}
use Rattle.av_tags.proofs.Views.{view_byte}
use Rattle.av_tags.proofs.tag.Tag.byte.Goals as goal

pub returns : goal.returns
returns c = view_byte (to_z w8 (of_z w8 c.args.number)) ∙ ap (λ z. byte z) (to_z-of_z c.ranges.number)
