use Rattle.av_rewrite.specs.Regions.{AreStamps}
use Rattle.av_rewrite.proofs.recoding.stamps_of.Given as goal

abbrev pub invariant-loop-index : goal.invariant-loop-index
invariant-loop-index l = AreStamps l.region.bytes.now l.index l.stamps.items
