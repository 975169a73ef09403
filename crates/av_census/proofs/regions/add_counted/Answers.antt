use Rattle.av_census.proofs.Files.{added_nothing, added_left_out}
use Rattle.av_census.proofs.regions.add_counted.Goals as goal

pub returns-in-Nothing : goal.returns-in-Nothing
returns-in-Nothing c = λ blocks n is. added_nothing c.args.tally.now blocks n (rw c.in-Nothing.is at is)

pub returns-in-LeftOut : goal.returns-in-LeftOut
returns-in-LeftOut c = λ blocks n is. added_left_out c.args.tally.now blocks n (rw c.in-LeftOut.is at is)
