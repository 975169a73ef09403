use Rattle.std.proofs.Common.{◌≡◌, map, take}
use Rattle.av_lending.proofs.lender.chunks_of.Given as goal

abbrev pub invariant-loop-touch : goal.invariant-loop-touch
invariant-loop-touch l = l.chunks.items ≡ map (λ t. t.chunk) (take l.touch-index l.touches)
