use Rattle.av_types.proofs.Coordinates.{block_back, place_less}
use Rattle.av_types.proofs.laws.block_is_at_its_place.Goals as goal

pub returns-clause-block : goal.returns-clause-block
returns-clause-block c = block_back

pub returns-clause-bound : goal.returns-clause-bound
returns-clause-bound c = place_less
