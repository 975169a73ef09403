use Rattle.av_nbt.proofs.distinct.are_distinct.Goals as goal

pub returns-then-tags-le-FEW : goal.returns-then-tags-le-FEW
returns-then-tags-le-FEW c = c.are_distinct_by_pairs.ensures
