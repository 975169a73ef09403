use Rattle.std.proofs.Common.{sym, ◌∙◌}
use Rattle.av_census.proofs.Sections.{one_number}
use Rattle.av_census.proofs.blocks.only_number.Goals as goal

pub returns-then-is_empty : goal.returns-then-is_empty
returns-then-is_empty c = λ i low.
    one_number c.args.section.now c.parts.result.0.now c.parts.result.1.now c.parts.result.2 c.parts.ensures (sym c.is_empty.ensures ∙ c.if-is_empty.true) i low
