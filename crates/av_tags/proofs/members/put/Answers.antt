use Rattle.std.proofs.Common.{rules}
use Rattle.av_tags.proofs.members.put.Goals as goal

pub returns-clause-placed : goal.returns-clause-placed
returns-clause-placed c = search rules
