use Rattle.std.proofs.Common.{◌≡◌, ◌+◌, false, subst, sym}
use Rattle.av_flood.specs.Board.{raw_of, is_settled, IsOnBoard, IsSettled}
use Rattle.av_flood.proofs.Boards.{settled_light, settled_settled, settled_byte, not_seen}
use Rattle.av_flood.proofs.board.Flood.settle.Goals as goal

pub settle_at-requires-clause-on_board : goal.settle_at-requires-clause-on_board
settle_at-requires-clause-on_board c = subst (λ p. IsOnBoard c.args.self.now.chunk c.args.self.now.height p c.spot-spot.result.index) (sym c.spot-spot.ensures.pos) c.spot-spot.ensures.on_board

pub settle_at-requires-clause-unsettled : goal.settle_at-requires-clause-unsettled
settle_at-requires-clause-unsettled c = not_seen _ (subst (λ p. is_settled c.args.self.now p ≡ false) (sym c.spot-spot.ensures.pos) c.requires.unsettled)

pub returns-clause-light : goal.returns-clause-light
returns-clause-light c = settled_light (raw_of c.args.self.now) (raw_of c.settle_at.new.self) c.args.pos c.args.level (subst (λ p. IsSettled (raw_of c.args.self.now) (raw_of c.settle_at.new.self) p (128 + c.args.level)) c.spot-spot.ensures.pos c.settle_at.ensures.bytes)

pub returns-clause-settled : goal.returns-clause-settled
returns-clause-settled c = settled_settled (raw_of c.args.self.now) (raw_of c.settle_at.new.self) c.args.pos c.args.level (subst (λ p. IsSettled (raw_of c.args.self.now) (raw_of c.settle_at.new.self) p (128 + c.args.level)) c.spot-spot.ensures.pos c.settle_at.ensures.bytes)

pub returns-clause-bytes : goal.returns-clause-bytes
returns-clause-bytes c = settled_byte (raw_of c.args.self.now) (raw_of c.settle_at.new.self) c.args.pos c.args.level (subst (λ p. IsSettled (raw_of c.args.self.now) (raw_of c.settle_at.new.self) p (128 + c.args.level)) c.spot-spot.ensures.pos c.settle_at.ensures.bytes)
