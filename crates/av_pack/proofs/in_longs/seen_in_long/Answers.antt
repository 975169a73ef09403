use Rattle.std.proofs.Common.{sym}
use Rattle.av_pack.proofs.InLongs.{seen_none_new}
use Rattle.av_pack.proofs.in_longs.seen_in_long.Goals as goal

pub returns-then-all_below-clause-value : goal.returns-then-all_below-clause-value
returns-then-all_below-clause-value c = sym (seen_none_new c.args.bits c.args.long c.args.few c.args.start c.requires.few (c.all_below.ensures c.if-all_below.true))
