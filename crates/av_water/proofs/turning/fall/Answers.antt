use Rattle.std.proofs.Common.{arith, sym, ◌∙◌}
use Rattle.av_cells.specs.Kinds.{kinds_of}
use Rattle.av_cells.specs.Turn.{onward}
use Rattle.av_water.proofs.StepByStep.{step_as, step_then}
use Rattle.av_water.proofs.StillWet.{wet_over_set}
use Rattle.av_water.proofs.turning.fall.Goals as goal

pub spread-requires : goal.spread-requires
spread-requires g c =
    record { ready = c.set_number.ensures.still_ready 28 c.requires.ready; wet = c.requires.wet ∙ sym (wet_over_set (kinds_of c.args.kinds.now) c.args.now c.number_of_wet-number.result c.args.pos c.set_number.ensures c.below-under.ensures) }

pub returns-then-spreads : goal.returns-then-spreads
unfolding onward
returns-then-spreads g c = step_as (step_then c.set_number.ensures c.spread.ensures) (omega arith) (grind arith)

pub returns-else-spreads : goal.returns-else-spreads
unfolding onward
returns-else-spreads g c = step_as c.set_number.ensures (omega arith) (grind arith)
