-- The indices that came have their ranks.
use Rattle.std.proofs.Common.{◌≡◌, get_or}
use Rattle.av_section.proofs.Ranking.{Replaced}
use Rattle.av_section.proofs.indices.mapped.Given as goal

abbrev pub invariant-loop-at : goal.invariant-loop-at
invariant-loop-at l = Replaced (λ a b. b ≡ get_or l.ranks a 0) l.fn.indices.items l.found.items l.at
