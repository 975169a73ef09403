-- Only the set of pending places changes.
use Rattle.std.proofs.Common.{refl}
use Rattle.av_section.proofs.section.Section.add_pending.Goals as goal

pub returns : goal.returns
returns c = record { numbers = λ i. refl; pending = rw c.deref_mut.ensures.value at c.insert.ensures.places; prepared = λ number there. there }
