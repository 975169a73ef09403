use Rattle.std.proofs.Common.{rules}
use Rattle.av_tags.proofs.copy.copy_tags.Goals as goal

pub returns-clause-copied : goal.returns-clause-copied
returns-clause-copied c = search rules
