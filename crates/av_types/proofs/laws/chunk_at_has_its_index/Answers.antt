use Rattle.av_types.proofs.Coordinates.{index_back, region_back}
use Rattle.av_types.proofs.laws.chunk_at_has_its_index.Goals as goal

pub returns-clause-index : goal.returns-clause-index
returns-clause-index c = index_back

pub returns-clause-region : goal.returns-clause-region
returns-clause-region c = region_back
