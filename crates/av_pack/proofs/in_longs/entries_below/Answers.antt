use Rattle.std.proofs.Common.{sym}
use Rattle.av_pack.proofs.InLongs.{below-all}
use Rattle.av_pack.proofs.in_longs.entries_below.Goals as goal

pub returns-then-count-bits : goal.returns-then-count-bits
returns-then-count-bits c = sym (below-all c.args.bits c.args.count c.args.longs.now c.requires.high c.if-count-bits.true)
