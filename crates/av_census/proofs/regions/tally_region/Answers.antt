use Rattle.std.proofs.Common.{◌<◌, ◌+◌, refl, arith}
use Rattle.av_census.proofs.Files.{region_none, region_next, region_room}
use Rattle.av_census.proofs.regions.tally_region.Goals as goal

pub loop-index-init : goal.loop-index-init
loop-index-init c = region_none c.args.height c.args.pos c.args.region.now.bytes.now c.args.tally.now

pub tally_index-requires-clause-room : goal.tally_index-requires-clause-room
tally_index-requires-clause-room c =
    let n = c.loop-index.index in
    let low : n < 1024 = omega arith in
    region_room c.args.height c.args.pos c.args.region.now.bytes.now n c.args.tally.now c.loop-index.tally c.loop-index.left_out low c.requires.room c.loop-index.invariant

pub loop-index-preserved : goal.loop-index-preserved
loop-index-preserved c =
    let one = c.in_ok-more.more in
    region_next c.args.height c.args.pos c.args.region.now.bytes.now c.loop-index.index c.args.tally.now c.loop-index.tally c.tally_index.new.tally c.loop-index.left_out one (c.loop-index.left_out + one)
    c.loop-index.invariant c.in_ok-more.ensures refl
