use Rattle.av_region.proofs.Law.{holds_all}
use Rattle.av_region.proofs.laws.written_holds.Goals as goal

pub returns : goal.returns
returns c = holds_all
