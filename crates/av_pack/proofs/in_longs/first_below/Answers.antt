use Rattle.std.proofs.Common.{◌≡◌, ◌∙◌, sym, nat_lt, false, true, arith}
use Rattle.std.proofs.lemmas.Bool.{lt-ltb, le-ltb}
use Rattle.av_pack.proofs.InLongs.{below-next, below-not}
use Rattle.av_pack.proofs.in_longs.first_below.Goals as goal

pub returns-then-from-count : goal.returns-then-from-count
returns-then-from-count c =
    let past : nat_lt c.field.result c.args.count ≡ false = le-ltb c.field.result c.args.count (omega (arith, c.if-from-count.true, c.from.ensures)) in
    sym (c.loop-i.invariant ∙ below-not _ _ _ _ c.field.result _ c.loop-i-test.true c.field.ensures.value past)

pub loop-i-preserved : goal.loop-i-preserved
loop-i-preserved c =
    let within : nat_lt c.field.result c.args.count ≡ true = lt-ltb c.field.result c.args.count (omega (arith, c.if-from-count.false, c.from.ensures)) in
    c.loop-i.invariant ∙ below-next _ _ _ _ c.field.result _ c.loop-i-test.true c.field.ensures.value within
