use Rattle.std.proofs.Common.{arith}
use Rattle.std.proofs.lemmas.Int.{ints}
use Rattle.av_flood.proofs.spots.across.Goals as goal

pub returns : goal.returns
returns c = record { less = omega (arith, ints); is = omega (arith, ints) }
