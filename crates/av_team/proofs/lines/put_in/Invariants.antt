use Rattle.std.proofs.Common.{◌≡◌}
use Rattle.av_team.proofs.lines.put_in.Given as goal

abbrev pub invariant-loop : goal.invariant-loop
invariant-loop g l = (l.pass ≡ l.fn.pass) × g.T.Fits.fits l.fn.pass.plan l.item
