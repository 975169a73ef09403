use Rattle.std.proofs.lemmas.Result.{IfOk-weaker}
use Rattle.av_flood.specs.Board.{raw_of}
use Rattle.av_flood.proofs.Boards.{byte_low}
use Rattle.av_flood.proofs.board.Flood.new.Goals as goal

pub returns-clause-dark : goal.returns-clause-dark
returns-clause-dark c = IfOk-weaker c.fresh.result _ _ (λ f fresh p. byte_low (raw_of f p) (fresh p).0) c.fresh.ensures.fresh
