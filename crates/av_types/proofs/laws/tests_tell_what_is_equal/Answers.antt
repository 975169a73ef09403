use Rattle.av_types.proofs.SamePositions.{same_pos_is, same_pos_from, same_chunk_is, same_chunk_from, same_section_is, same_section_from}
use Rattle.av_types.proofs.laws.tests_tell_what_is_equal.Goals as goal

pub returns-clause-blocks : goal.returns-clause-blocks
returns-clause-blocks c = λ p q. (same_pos_is p q, same_pos_from p q)

pub returns-clause-chunks : goal.returns-clause-chunks
returns-clause-chunks c = λ a b. (same_chunk_is a b, same_chunk_from a b)

pub returns-clause-sections : goal.returns-clause-sections
returns-clause-sections c = λ s t. (same_section_is s t, same_section_from s t)
