-- A number that is there is found.
use Rattle.av_section.proofs.Rising.{is_found}
use Rattle.av_section.proofs.indices.rank_among.Goals as goal

pub unwrap-requires : goal.unwrap-requires
unwrap-requires c = is_found c.args.rising.now c.args.number c.binary_search.result c.requires.rising c.requires.there c.binary_search.ensures.position
