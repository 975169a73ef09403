use Rattle.std.proofs.Common.{◌≤◌, ◌<◌, ◌*◌, length, rules, arith}
use Rattle.av_pack.proofs.LowFirst.{low_first-more}
use Rattle.av_pack.proofs.packing.full_long.Goals as goal

pub loop-i-preserved : goal.loop-i-preserved
loop-i-preserved c =
    let room : c.args.bits * length c.args.values.now ≤ 64 = search rules in
    let within : c.loop-i.i < length c.args.values.now = omega (arith, c.loop-i-test.true, c.entries_in_long-i-end.ensures.value, c.requires.count) in
    low_first-more _ _ _ _ _ room c.requires.fit within c.from.ensures c.loop-i.invariant
