use Rattle.std.proofs.Common.{sym}
use Rattle.av_pack.proofs.InLongs.{below-at_once}
use Rattle.av_pack.proofs.in_longs.long_below.Goals as goal

pub returns-then-all_below : goal.returns-then-all_below
returns-then-all_below c = sym (below-at_once c.args.bits c.args.long c.args.few c.args.count c.requires.few (c.all_below.ensures c.if-all_below.true))
