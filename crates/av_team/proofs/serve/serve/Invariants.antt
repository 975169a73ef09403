use Rattle.av_team.specs.Lines.{ArePassesOf}
use Rattle.av_team.proofs.serve.serve.Given as goal

abbrev pub invariant-loop : goal.invariant-loop
invariant-loop g l = ArePassesOf l.desk l.passes
