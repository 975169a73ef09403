use Rattle.std.proofs.Common.{◌∙◌, sym, subst, rules, to_z-of_z, w32, FitsSigned}
use Rattle.av_types.specs.Positions.{IsSectionOf}
use Rattle.av_chunk.proofs.Heights.{offset_at, section_there}
use Rattle.av_codec.proofs.index.section_index.Goals as goal

pub section_index-requires : goal.section_index-requires
section_index-requires c =
    let fits : FitsSigned w32 c.args.y = search rules in
    subst (IsSectionOf c.args.height) (sym (to_z-of_z fits)) (section_there c.args.height c.args.y c.requires)

pub returns-clause-value : goal.returns-clause-value
returns-clause-value c =
    let fits : FitsSigned w32 c.args.y = search rules in
    sym (offset_at c.args.height c.args.y c.section_index.result (sym (to_z-of_z fits) ∙ c.section_index.ensures.number))
