use Rattle.std.proofs.Common.{◌<◌, ◌^◌, refl, rules}
use Rattle.av_drop.proofs.Shifts.{are_beside}
use Rattle.av_drop.proofs.board.Board.beside.Goals as goal

pub returns : goal.returns
returns c =
    let fits : c.args.self.bits < 2 ^ 128 = search rules in
    are_beside c.args.self _ fits refl
