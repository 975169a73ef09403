use Rattle.std.proofs.Common.{◌∙◌}
use Rattle.av_cells.specs.Grid.{cells_of}
use Rattle.av_cells.proofs.GridBlocks.{cells_waited, entry_is}
use Rattle.av_cells.proofs.laws.waited_place_is_its_block.Goals as goal

pub returns : goal.returns
returns c = λ g e h. cells_waited g e h ∙ entry_is (cells_of g) e
