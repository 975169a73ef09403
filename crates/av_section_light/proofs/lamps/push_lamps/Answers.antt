use Rattle.std.proofs.Common.{arith, refl}
use Rattle.av_section_light.proofs.lamps.push_lamps.Goals as goal

pub returns-then-is_dark-clause-lit : goal.returns-then-is_dark-clause-lit
returns-then-is_dark-clause-lit c = λ i less shines. let dark = c.if-is_dark.ensures refl i less in absurd (omega arith)
