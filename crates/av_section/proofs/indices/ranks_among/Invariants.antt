-- The numbers that came have their ranks.
use Rattle.av_section.proofs.Ranking.{Replaced, StandsAt}
use Rattle.av_section.proofs.indices.ranks_among.Given as goal

abbrev pub invariant-loop-index : goal.invariant-loop-index
invariant-loop-index l = Replaced (StandsAt l.rising) l.fn.numbers.items l.ranks.items l.index
