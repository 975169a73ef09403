use Rattle.av_pack.proofs.Halves.{both_halves}
use Rattle.av_pack.proofs.in_longs.all_below.Goals as goal

pub returns-then-half_below : goal.returns-then-half_below
returns-then-half_below c told = both_halves c.args.bits c.args.count c.args.long (c.half_below.ensures c.if-half_below.true) (c.half_below-then-half_below.ensures told)
