use Rattle.std.specs.Int.{w128}
use Rattle.std.proofs.lemmas.Nat.{and_le_l}
use Rattle.std.proofs.lemmas.Nat.Bits.{bit_at_clear_same, bit_at_clear_other}
use Rattle.std.proofs.lemmas.Bool.{eqb-false}
use Rattle.av_drop.proofs.Bits.{zero_off, same_on, less_without}
use Rattle.av_drop.proofs.board.Board.without.Goals as goal

pub returns-clause-here : goal.returns-clause-here
returns-clause-here c = zero_off _ c.args.square (bit_at_clear_same w128 c.args.self.bits c.args.square c.requires.bound)

pub returns-clause-others : goal.returns-clause-others
returns-clause-others c i l h = same_on _ c.args.self i i (bit_at_clear_other w128 c.args.self.bits c.args.square c.requires.bound i l (eqb-false i c.args.square h))

pub returns-clause-less : goal.returns-clause-less
returns-clause-less c = less_without c.args.self c.args.square _ c.requires.there (and_le_l c.args.self.bits _) (bit_at_clear_same w128 c.args.self.bits c.args.square c.requires.bound)
