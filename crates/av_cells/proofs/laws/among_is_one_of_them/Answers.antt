use Rattle.av_cells.proofs.GridBlocks.{among_has, has_among}
use Rattle.av_cells.proofs.laws.among_is_one_of_them.Goals as goal

pub returns : goal.returns
returns c = λ ss s. (among_has ss s, has_among ss s)
