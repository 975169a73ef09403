use Rattle.av_cells.proofs.GridBlocks.{cells_cleared}
use Rattle.av_cells.proofs.laws.cleared_place_is_its_block.Goals as goal

pub returns : goal.returns
returns c = cells_cleared
