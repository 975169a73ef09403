use Rattle.std.proofs.Common.{arith, sym, ◌∙◌, ◌*◌}
use Rattle.av_flood.specs.Board.{is_on, index_of}
use Rattle.av_flood.proofs.Halves.{dark_byte}
use Rattle.av_flood.proofs.Quiet.{count_within}
use Rattle.av_flood.proofs.board.Flood.settled.Goals as goal

pub returns-clause-most : goal.returns-clause-most
returns-clause-most c = let few = count_within (30976 * c.args.self.now.height.sections) c.args.self.now.light.items c.args.self.now.fenced in omega (arith, few, c.args.self.now.counted)

pub returns-clause-none : goal.returns-clause-none
returns-clause-none c = λ e p. dark_byte (is_on c.args.self.now.chunk c.args.self.now.height p) c.args.self.now.light.items (index_of c.args.self.now.chunk c.args.self.now.height p) (sym c.args.self.now.counted ∙ e)
