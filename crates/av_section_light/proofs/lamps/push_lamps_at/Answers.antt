use Rattle.av_section_light.proofs.LampLemmas.{lit_here}
use Rattle.av_section_light.proofs.lamps.push_lamps_at.Goals as goal

pub returns-clause-lit : goal.returns-clause-lit
returns-clause-lit g c = λ p e l shines. lit_here c.args.kinds.now (g.S.Sections.grid c.args.sections.now) c.args.at c.in-Some.section.now c.push_lamps.new.lamps.items c.in-Some.ensures (c.in_ok-push_lamps.ensures {u = tt}).lit p e shines
