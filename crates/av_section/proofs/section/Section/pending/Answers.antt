use Rattle.av_section.proofs.section.Section.pending.Goals as goal

pub returns : goal.returns
returns c = rw c.deref.ensures at c.contains.ensures
