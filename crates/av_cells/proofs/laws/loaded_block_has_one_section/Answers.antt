use Rattle.av_types.specs.Positions.{section_of}
use Rattle.av_cells.proofs.Sections.{lies_in, lies_in_one}
use Rattle.av_cells.proofs.laws.loaded_block_has_one_section.Goals as goal

pub returns : goal.returns
returns c = λ g p h. record { section = section_of p; here = h; lies = lies_in p; alone = λ t l. lies_in_one t p l }
