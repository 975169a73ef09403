use Rattle.av_cells.proofs.GridBlocks.{filling_here, filling_elsewhere}
use Rattle.av_cells.proofs.laws.exchanged_section_is_alone.Goals as goal

pub returns-clause-section : goal.returns-clause-section
returns-clause-section c = filling_here

pub returns-clause-others : goal.returns-clause-others
returns-clause-others c = filling_elsewhere
