use Rattle.std.proofs.Common.{refl}
use Rattle.av_section.proofs.indices.data_longs.Goals as goal

pub returns-in-None : goal.returns-in-None
returns-in-None c = rw c.in-None.is refl
