-- The numbers that came, each once, and their ranks.
use Rattle.std.proofs.Common.{take}
use Rattle.av_section.specs.Distinct.{AreEachOnce}
use Rattle.av_section.proofs.Ranking.{Replaced, StandsAt}
use Rattle.av_section.proofs.indices.distinct_by_pairs.Given as goal

abbrev pub invariant-loop-index : goal.invariant-loop-index
invariant-loop-index l = record {
  once : AreEachOnce (take l.index l.fn.numbers.items) l.once.items;
  ranked : Replaced (StandsAt l.once.items) l.fn.numbers.items l.ranks.items l.index;
}
