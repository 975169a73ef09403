use Rattle.std.proofs.Common.{◌≤◌, arith}
use Rattle.av_rules.specs.Kinds.{kind_count}
use Rattle.av_serial_tests.proofs.Ready.{plain_is_ready}
use Rattle.av_bench.proofs.refusing.run_ticks.Goals as goal

pub loop-done-init : goal.loop-done-init
loop-done-init g c =
    let count : 11 ≤ kind_count c.args.kinds.now = omega (arith, c.count.ensures, c.if-count-lt11.false) in
    plain_is_ready (kind_count c.args.kinds.now) c.args.world.now count c.requires
