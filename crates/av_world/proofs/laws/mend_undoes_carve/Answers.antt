use Rattle.av_world.proofs.Mending.{mend_undoes}
use Rattle.av_world.proofs.laws.mend_undoes_carve.Goals as goal

pub returns : goal.returns
returns c = mend_undoes
