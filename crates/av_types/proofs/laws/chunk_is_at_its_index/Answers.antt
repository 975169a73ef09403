use Rattle.av_types.proofs.Coordinates.{chunk_back, index_less}
use Rattle.av_types.proofs.laws.chunk_is_at_its_index.Goals as goal

pub returns-clause-chunk : goal.returns-clause-chunk
returns-clause-chunk c = chunk_back

pub returns-clause-bound : goal.returns-clause-bound
returns-clause-bound c = index_less
