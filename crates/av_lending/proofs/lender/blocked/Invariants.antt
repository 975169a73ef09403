use Rattle.std.proofs.Common.{All, take}
use Rattle.av_lending.specs.Brought.{IsReadyAt}
use Rattle.av_lending.proofs.lender.blocked.Given as goal

abbrev pub invariant-loop-touch : goal.invariant-loop-touch
invariant-loop-touch l = All (IsReadyAt l.stages) (take l.touch-index l.touches)
