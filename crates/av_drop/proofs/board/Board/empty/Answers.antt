use Rattle.std.proofs.lemmas.Nat.Bits.{bit_at-zero}
use Rattle.av_drop.proofs.Bits.{zero_off}
use Rattle.av_drop.proofs.board.Board.empty.Goals as goal

pub returns : goal.returns
returns c i = zero_off _ i (bit_at-zero i)
