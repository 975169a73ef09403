use Rattle.std.proofs.Common.{arith}
use Rattle.av_cells.specs.Turn.{renewed}
use Rattle.av_water.proofs.StepByStep.{step_as, step_then}
use Rattle.av_water.proofs.StillWet.{wet_as_set}
use Rattle.av_water.proofs.turning.renew.Goals as goal

pub returns-then-is_source : goal.returns-then-is_source
unfolding renewed
returns-then-is_source g c = step_as c.go_on.ensures (omega arith) (grind arith)

pub returns-then-is_same : goal.returns-then-is_same
unfolding renewed
returns-then-is_same g c = step_as c.go_on-then-is_same.ensures (omega arith) (grind arith)

pub go_on-requires-then-is_wet : goal.go_on-requires-then-is_wet
go_on-requires-then-is_wet g c =
    record {
      ready = c.set_number.ensures.still_ready 35 c.requires.ready;
      wet = wet_as_set c.args.kinds.now c.args.now c.incoming-coming.result c.set_number.ensures c.incoming-coming.ensures.proper c.number_of_wet.ensures.is c.requires.ready.loaded;
    }

pub returns-then-is_wet : goal.returns-then-is_wet
unfolding renewed
returns-then-is_wet g c = step_as (step_then c.set_number.ensures c.go_on-then-is_wet.ensures) (omega arith) (grind arith)

pub returns-else-is_wet : goal.returns-else-is_wet
unfolding renewed
returns-else-is_wet g c = step_as c.set_number.ensures (omega arith) (grind arith)
