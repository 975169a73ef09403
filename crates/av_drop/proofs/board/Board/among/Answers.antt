use Rattle.std.proofs.Common.{refl}
use Rattle.av_drop.proofs.Bits.{and_on}
use Rattle.av_drop.proofs.board.Board.among.Goals as goal

pub returns : goal.returns
returns c i = and_on c.args.self c.args.others i _ refl
