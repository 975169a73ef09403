use Rattle.std.proofs.Common.{ap, subst, sym}
use Rattle.av_line.proofs.Steps.{puts}
use Rattle.av_line.proofs.line.Line.put.Goals as goal

pub push_as-requires-clause-rule : goal.push_as-requires-clause-rule
push_as-requires-clause-rule g c =
    puts _ _ _ _ _ c.pass.inside.told (subst (λ p. g.T.Fits.fits p c.args.item) (sym (ap (λ s. s.plan) c.pass.view_is)) c.requires.fits)
