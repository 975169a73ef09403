use Rattle.std.proofs.Common.{◌≤◌, arith, refl}
use Rattle.av_rules.specs.Kinds.{kind_count}
use Rattle.av_world.specs.Views.{blocks}
use Rattle.av_world_tests.proofs.Plain.{kinds_more}
use Rattle.av_inter_tests.proofs.turn_tests.made_by_both.Goals as goal

pub turn_one-requires-clause-kinds : goal.turn_one-requires-clause-kinds
turn_one-requires-clause-kinds c =
    let count : 11 ≤ kind_count c.args.kinds.now = omega (arith, c.count.ensures, c.if-count-lt11.false) in
    kinds_more 11 (kind_count c.args.kinds.now) (blocks c.args.world.now) (blocks c.args.world.now) refl count c.requires.numbers
