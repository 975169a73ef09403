use Rattle.std.proofs.Common.{◌≤◌, arith}
use Rattle.av_rules.specs.Kinds.{kind_count}
use Rattle.av_serial_tests.proofs.Ready.{plain_is_ready}
use Rattle.av_crew_tests.proofs.crews.crew_tick.Goals as goal

pub tick-requires-clause-ready : goal.tick-requires-clause-ready
tick-requires-clause-ready g c κs within = λ sound.
    let count : 11 ≤ kind_count c.args.kinds.now = omega (arith, c.count.ensures, c.if-count-lt11.false) in
    plain_is_ready (kind_count c.args.kinds.now) c.args.world.now count c.requires
