use Rattle.av_flood.proofs.Boards.{off_x, off_y, off_z, on_board_at}
use Rattle.av_flood.proofs.board.Flood.index.Goals as goal

pub returns-in_err-x : goal.returns-in_err-x
returns-in_err-x c = rw c.from_residual.ensures (off_x _ _ _ c.in_err-x.ensures)

pub returns-in_err-z : goal.returns-in_err-z
returns-in_err-z c = rw c.from_residual-in_err-z.ensures (off_z _ _ _ c.in_err-z.ensures)

pub returns-in_err-y : goal.returns-in_err-y
returns-in_err-y c = rw c.from_residual-in_err-y.ensures (off_y _ _ _ c.in_err-y.ensures)

pub returns : goal.returns
returns c = on_board_at _ _ _ _ _ _ c.in_ok-x.ensures c.in_ok-z.ensures c.in_ok-y.ensures
