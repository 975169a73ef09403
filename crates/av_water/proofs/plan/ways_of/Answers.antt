use Rattle.av_drop.proofs.Nearest.{by_sides}
use Rattle.av_water.proofs.plan.ways_of.Goals as goal

pub returns : goal.returns
returns g c = record { at = by_sides _ c.is_way.ensures c.is_way-2.ensures c.is_way-3.ensures c.is_way-4.ensures }
