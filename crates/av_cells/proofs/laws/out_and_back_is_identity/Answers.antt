use Rattle.av_cells.proofs.Sections.{over_at}
use Rattle.av_cells.proofs.laws.out_and_back_is_identity.Goals as goal

pub returns : goal.returns
returns c = λ b g. λ i. λ s. over_at (b s) (g s) i
