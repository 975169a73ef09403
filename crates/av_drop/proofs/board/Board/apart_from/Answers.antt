use Rattle.std.proofs.Common.{◌<◌, ◌^◌, refl, rules}
use Rattle.av_drop.proofs.Bits.{apart_on}
use Rattle.av_drop.proofs.board.Board.apart_from.Goals as goal

pub returns : goal.returns
returns c i less =
    let fits : c.args.others.bits < 2 ^ 128 = search rules in
    apart_on c.args.self c.args.others i _ fits less refl
