use Rattle.std.proofs.Common.{◌≡◌, map, take, Some}
use Rattle.av_lending.proofs.lender.are_at.Given as goal

abbrev pub invariant-loop-index : goal.invariant-loop-index
invariant-loop-index l = take l.index l.stages ≡ map Some (take l.index l.last)
