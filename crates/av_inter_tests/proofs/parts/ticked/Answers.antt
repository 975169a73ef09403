use Rattle.std.proofs.Common.{◌≤◌, arith, refl}
use Rattle.av_rules.specs.Kinds.{kind_count}
use Rattle.av_world.specs.Views.{blocks}
use Rattle.av_world_tests.proofs.Plain.{kinds_more}
use Rattle.av_inter_tests.proofs.parts.ticked.Goals as goal

pub tick-requires-clause-ready : goal.tick-requires-clause-ready
tick-requires-clause-ready c = λ sound.
    let count : 11 ≤ kind_count c.args.kinds.now = omega (arith, c.count.ensures, c.if-count-lt11.false) in
    record { whole = c.requires.whole; numbers = kinds_more 11 (kind_count c.args.kinds.now) (blocks c.args.world) (blocks c.args.world) refl count c.requires.numbers }
