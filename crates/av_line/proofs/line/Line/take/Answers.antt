use Rattle.std.proofs.Common.{ap}
use Rattle.av_line.proofs.Steps.{takes, no_plan, item_fits}
use Rattle.av_line.proofs.line.Line.take.Goals as goal

pub pop_as-requires-clause-rule : goal.pop_as-requires-clause-rule
pop_as-requires-clause-rule g c = takes _ _ _ c.pass.inside.told

pub unreachable-requires : goal.unreachable-requires
unreachable-requires g c = no_plan g.T.Fits.fits _ _ _ _ c.pass.inside.told c.in_ok-item.ensures.rule c.in-Plan.is

pub returns-clause-fits : goal.returns-clause-fits
returns-clause-fits g c = item_fits g.T.Fits.fits _ _ _ _ _ c.pass.inside.told c.in_ok-item.ensures.rule c.in-Item.is (ap (λ s. s.plan) c.pass.view_is)
