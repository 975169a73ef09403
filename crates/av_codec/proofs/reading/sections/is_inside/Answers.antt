use Rattle.std.proofs.Common.{◌≡◌, ◌∙◌, ap, rules, to_z-of_z, w32, FitsSigned}
use Rattle.av_types.specs.Positions.{is_section_of}
use Rattle.av_chunk.proofs.Heights.{section_test}
use Rattle.av_codec.proofs.reading.sections.is_inside.Goals as goal

pub returns : goal.returns
returns c =
    let fits : FitsSigned w32 c.from.result = search rules in
    let same : c.from.result ≡ c.args.y = search rules in
    let h = simp to_z-of_z at (section_test _ _ _ c.has_section.ensures) in
    h ∙ ap (is_section_of c.args.height) same
