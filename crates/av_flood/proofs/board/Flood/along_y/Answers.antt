use Rattle.std.proofs.Common.{arith}
use Rattle.std.proofs.lemmas.Int.{ints}
use Rattle.av_flood.proofs.Boards.{below_first, after_last}
use Rattle.av_flood.proofs.board.Flood.along_y.Goals as goal

pub returns : goal.returns
returns c = record { less = omega (arith, ints); is = omega (arith, ints) }

pub returns-then-steps-lt0 : goal.returns-then-steps-lt0
returns-then-steps-lt0 c = below_first _ _ _ (omega (arith, ints))

pub returns-then-size-steps : goal.returns-then-size-steps
returns-then-size-steps c = after_last _ _ _ (omega (arith, ints))
