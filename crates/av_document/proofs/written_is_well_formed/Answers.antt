use Rattle.av_document.proofs.WellFormed.{written_is_well_formed}
use Rattle.av_document.proofs.written_is_well_formed.Goals as goal

pub returns : goal.returns
returns c = written_is_well_formed
