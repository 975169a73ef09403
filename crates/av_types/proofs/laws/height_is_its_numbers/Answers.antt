use Rattle.av_types.proofs.HeightNumbers.{height_is}
use Rattle.av_types.proofs.laws.height_is_its_numbers.Goals as goal

pub returns : goal.returns
returns c = height_is
