use Rattle.std.proofs.Common.{arith}
use Rattle.std.proofs.lemmas.Int.{ints}
use Rattle.av_flood.proofs.Boards.{below_first, after_last}
use Rattle.av_flood.proofs.board.Flood.along_x.Goals as goal
use Rattle.av_flood.proofs.board.Flood.along_x.Goals.{then-steps-lt0-via-then-steps-lt0, then-steps-lt0-via-else-steps-lt0+then-steps-ge44}

pub returns : goal.returns
returns c = record { less = omega (arith, ints); is = omega (arith, ints) }

pub returns-then-steps-lt0 : goal.returns-then-steps-lt0
returns-then-steps-lt0 c = elim c.then-steps-lt0.branch [ then-steps-lt0-via-then-steps-lt0 w ↦ below_first _ _ _ (omega (arith, ints)) | then-steps-lt0-via-else-steps-lt0+then-steps-ge44 w ↦ after_last _ _ _ (omega (arith, ints)) ]
