use Rattle.std.proofs.Common.{arith}
use Rattle.std.proofs.lemmas.Int.{ints}
use Rattle.av_flood.proofs.Boards.{pos_is}
use Rattle.av_section_light.proofs.lamps.block_at.Goals as goal

pub returns : goal.returns
returns c = pos_is _ _ _ _ _ _ (omega (arith, ints)) (omega (arith, ints)) (omega (arith, ints))
