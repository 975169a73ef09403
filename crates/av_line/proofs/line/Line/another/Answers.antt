use Rattle.av_line.proofs.Steps.{shares}
use Rattle.av_line.proofs.line.Line.another.Goals as goal

pub another-pass-requires-clause-rule : goal.another-pass-requires-clause-rule
another-pass-requires-clause-rule g c = shares _ _ _ c.pass.inside.told
