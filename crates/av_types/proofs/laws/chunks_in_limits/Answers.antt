use Rattle.av_types.proofs.Coordinates.{limits_of, limits_from}
use Rattle.av_types.proofs.laws.chunks_in_limits.Goals as goal

pub returns : goal.returns
returns c = λ c. (limits_of c, limits_from c)
