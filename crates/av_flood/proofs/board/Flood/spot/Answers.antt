use Rattle.std.proofs.Common.{sym, subst}
use Rattle.av_flood.specs.Board.{IsOnBoard}
use Rattle.av_flood.proofs.Boards.{on_board_at}
use Rattle.av_flood.proofs.board.Flood.spot.Goals as goal

pub returns-clause-on_board : goal.returns-clause-on_board
returns-clause-on_board c = subst (IsOnBoard c.args.self.now.chunk c.args.self.now.height c.args.pos) (sym c.index.ensures) (on_board_at _ _ _ _ _ _ c.steps.ensures.x c.steps.ensures.z c.steps.ensures.y)
