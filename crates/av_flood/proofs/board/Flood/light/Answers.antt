use Rattle.std.proofs.Common.{arith}
use Rattle.av_flood.specs.Board.{is_on, index_of, raw_of}
use Rattle.av_flood.proofs.Boards.{lit_raw}
use Rattle.av_flood.proofs.Halves.{dim_byte}
use Rattle.av_flood.proofs.board.Flood.light.Goals as goal

pub returns-clause-value : goal.returns-clause-value
returns-clause-value c =
    let same = lit_raw (raw_of c.args.self.now c.args.pos) in
    omega (arith, same, c.raw.ensures, c.saturating_sub.ensures)

pub returns-clause-most : goal.returns-clause-most
returns-clause-most c =
    let low = dim_byte (is_on c.args.self.now.chunk c.args.self.now.height c.args.pos) c.args.self.now.light.items (index_of c.args.self.now.chunk c.args.self.now.height c.args.pos) c.args.self.now.dim in
    omega (arith, c.raw.ensures, c.saturating_sub.ensures)
