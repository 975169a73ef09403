use Rattle.std.proofs.Common.{arith, rules, to_z-of_z, w32, FitsSigned}
use Rattle.av_chunk.proofs.Heights.{section_test}
use Rattle.av_codec.proofs.reading.water.lies_in.Goals as goal

pub returns-then-eq : goal.returns-then-eq
returns-then-eq c =
    let fits : FitsSigned w32 c.args.pos.y = search rules in
    let h = simp to_z-of_z at (section_test _ _ _ c.has_block.ensures) in
    grind (arith, h)
