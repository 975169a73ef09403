use Rattle.std.proofs.Common.{rules, to_z-of_z, w32, FitsSigned}
use Rattle.av_chunk.proofs.Heights.{section_test}
use Rattle.av_codec.proofs.block.is_in_height.Goals as goal

pub returns : goal.returns
returns c =
    let fits : FitsSigned w32 c.args.y = search rules in
    simp to_z-of_z at (section_test _ _ _ c.has_block.ensures)
