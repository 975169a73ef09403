use Rattle.std.proofs.Common.{rules}
use Rattle.av_region.proofs.writing.location_for.Goals as goal

pub returns-then-is_some : goal.returns-then-is_some
returns-then-is_some g c = search rules
