use Rattle.av_cells.specs.Positions.{InReach}
use Rattle.av_water.proofs.Regions.{sees_turn}
use Rattle.av_water.proofs.SameReads.{turn_same}
use Rattle.av_water.proofs.laws.turn_reads_its_reach.Goals as goal

pub returns : goal.returns
returns c = λ k now p v w a. turn_same k (InReach p) now p v w (sees_turn p) a
