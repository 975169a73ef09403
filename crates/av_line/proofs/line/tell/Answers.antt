use Rattle.std.proofs.Common.{rules}
use Rattle.av_line.proofs.Steps.{tells, hears}
use Rattle.av_line.proofs.line.tell.Goals as goal

pub push_as-requires-clause-rule : goal.push_as-requires-clause-rule
push_as-requires-clause-rule g c = tells _ _ _ _ _ c.requires.pass.1

pub pop_as-requires-clause-rule : goal.pop_as-requires-clause-rule
pop_as-requires-clause-rule g c = hears _ _ _ c.args.plan (search rules)
