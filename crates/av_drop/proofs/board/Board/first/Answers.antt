use Rattle.std.proofs.Common.{◌<◌, ◌^◌, rules}
use Rattle.std.specs.Int.{w128}
use Rattle.std.proofs.lemmas.Nat.Bits.{bit_at-trailing_zeros}
use Rattle.av_drop.proofs.Bits.{one_on, square_positive}
use Rattle.av_drop.proofs.board.Board.first.Goals as goal

pub returns-clause-marked : goal.returns-clause-marked
returns-clause-marked c =
    let fits : c.args.self.bits < 2 ^ 128 = search rules in
    one_on c.args.self _ (bit_at-trailing_zeros w128 c.args.self.bits (square_positive c.args.self c.requires) fits).1

pub returns-clause-bound : goal.returns-clause-bound
returns-clause-bound c =
    let fits : c.args.self.bits < 2 ^ 128 = search rules in
    (bit_at-trailing_zeros w128 c.args.self.bits (square_positive c.args.self c.requires) fits).0
