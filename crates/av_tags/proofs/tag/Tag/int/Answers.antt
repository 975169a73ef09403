use Rattle.std.proofs.Common.{ap, ◌∙◌, to_z, of_z}
use Rattle.std.proofs.Math.Facts.{to_z-of_z}
use Rattle.std.specs.Int.{w32}
use Rattle.av_tags.specs.Nbt.{int}
use Rattle.av_tags.proofs.Views.{view_int}
use Rattle.av_tags.proofs.tag.Tag.int.Goals as goal

pub returns : goal.returns
returns c = view_int (to_z w32 (of_z w32 c.args.number)) ∙ ap (λ z. int z) (to_z-of_z c.ranges.number)
