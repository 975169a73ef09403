use Rattle.std.proofs.Common.{◌≡◌, ◌<◌, ◌^◌, ap, ◌∙◌, arith, rules}
use Rattle.std.specs.Int.{w128, bit_at}
use Rattle.std.proofs.lemmas.Bool.Decides.{nat_tests}
use Rattle.std.proofs.lemmas.Nat.Bits.{bit_at-zero, bit_at-trailing_zeros}
use Rattle.av_drop.proofs.Bits.{zero_off, one_on}
use Rattle.av_drop.proofs.board.Board.is_empty.Goals as goal

pub returns-clause-none : goal.returns-clause-none
returns-clause-none c h i =
    let e : c.args.self.bits ≡ 0 = grind (arith, nat_tests) in
    zero_off c.args.self i (ap (λ n. bit_at n i) e ∙ bit_at-zero i)

pub returns-clause-some : goal.returns-clause-some
returns-clause-some c h =
    let fits : c.args.self.bits < 2 ^ 128 = search rules in
    let some : 0 < c.args.self.bits = grind (arith, nat_tests) in
    let first = bit_at-trailing_zeros w128 c.args.self.bits some fits in
    record { square = _; bound = first.0; marked = one_on c.args.self _ first.1 }
