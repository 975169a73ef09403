use Rattle.av_water.proofs.Chosen.{chosen}
use Rattle.av_water.proofs.laws.chosen_directions_are_nearest.Goals as goal

pub returns : goal.returns
returns c = chosen
