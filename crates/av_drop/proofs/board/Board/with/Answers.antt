use Rattle.std.specs.Int.{w128}
use Rattle.std.proofs.lemmas.Nat.Bits.{bit_at_set_same, bit_at_set_other}
use Rattle.std.proofs.lemmas.Bool.{eqb-false}
use Rattle.av_drop.proofs.Bits.{one_on, same_on}
use Rattle.av_drop.proofs.board.Board.with.Goals as goal

pub returns-clause-here : goal.returns-clause-here
returns-clause-here c = one_on _ c.args.square (bit_at_set_same w128 c.args.self.bits c.args.square c.requires)

pub returns-clause-others : goal.returns-clause-others
returns-clause-others c i h = same_on _ c.args.self i i (bit_at_set_other w128 c.args.self.bits c.args.square c.requires i (eqb-false i c.args.square h))
