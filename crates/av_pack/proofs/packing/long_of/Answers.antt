use Rattle.av_pack.proofs.LowFirst.{low_first-more}
use Rattle.av_pack.proofs.packing.long_of.Goals as goal

pub loop-i-preserved : goal.loop-i-preserved
loop-i-preserved c = low_first-more _ _ _ _ _ c.requires.room c.requires.fit c.loop-i-test.true c.from.ensures c.loop-i.invariant
