use Rattle.std.proofs.Common.{◌≤◌, arith}
use Rattle.av_rules.specs.Kinds.{kind_count}
use Rattle.av_serial_tests.proofs.Ready.{plain_is_ready}
use Rattle.av_serial_tests.proofs.runs.turned.Goals as goal

pub turn_all-requires-clause-ready : goal.turn_all-requires-clause-ready
turn_all-requires-clause-ready c =
    let count : 11 ≤ kind_count c.args.kinds.now = omega (arith, c.count.ensures, c.if-count-lt11.false) in
    plain_is_ready (kind_count c.args.kinds.now) c.args.world count c.requires
