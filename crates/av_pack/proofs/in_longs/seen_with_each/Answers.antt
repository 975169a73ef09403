use Rattle.av_pack.proofs.InLongs.{seen_more}
use Rattle.av_pack.proofs.in_longs.seen_with_each.Goals as goal

pub loop-i-preserved : goal.loop-i-preserved
loop-i-preserved c =
    (seen_more c.args.bits c.args.long c.args.start c.loop-i.i _ _ _ c.field.ensures.value c.loop-i.invariant.0 c.seen_with-next.ensures.value, c.seen_with-next.ensures.bound)
