use Rattle.av_cells.proofs.GridBlocks.{cells_set}
use Rattle.av_cells.proofs.laws.renumbered_place_is_its_block.Goals as goal

pub returns : goal.returns
returns c = cells_set
