use Rattle.std.proofs.Common.{rules}
use Rattle.av_region.proofs.writing.is_too_large.Goals as goal

pub returns-in-Some : goal.returns-in-Some
returns-in-Some g c = search rules
