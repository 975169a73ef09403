use Rattle.av_types.proofs.Coordinates.{section_back, place_back}
use Rattle.av_types.proofs.laws.block_at_has_its_place.Goals as goal

pub returns-clause-section : goal.returns-clause-section
returns-clause-section c = section_back

pub returns-clause-place : goal.returns-clause-place
returns-clause-place c = place_back
