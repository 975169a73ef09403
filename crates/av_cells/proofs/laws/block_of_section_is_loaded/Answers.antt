use Rattle.std.proofs.Common.{subst, IsTrue}
use Rattle.av_cells.specs.Grid.{is_here}
use Rattle.av_cells.proofs.Sections.{lies_in_one}
use Rattle.av_cells.proofs.laws.block_of_section_is_loaded.Goals as goal

pub returns : goal.returns
returns c = λ g s p h l. subst (λ t. IsTrue (is_here (g t))) (lies_in_one s p l) h
