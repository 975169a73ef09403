use Rattle.std.proofs.Common.{sym, ◌∙◌}
use Rattle.av_nbt.proofs.Sorting.{rise_more, falls}
use Rattle.av_nbt.proofs.distinct.rise.Goals as goal

pub returns-then-not-is_lt : goal.returns-then-not-is_lt
returns-then-not-is_lt c =
    (λ t k more. cc, falls c.args.names.now c.loop-index.index c.cmp.result c.loop-index.auto.index c.loop-index-test.true c.cmp.ensures (sym c.is_lt.ensures ∙ c.if-not-is_lt.true))

pub loop-index-preserved : goal.loop-index-preserved
loop-index-preserved c = rise_more c.args.names.now c.loop-index.index c.cmp.result c.loop-index.auto.index c.cmp.ensures (sym c.is_lt.ensures ∙ c.if-not-is_lt.false) c.loop-index.invariant
