use Rattle.av_land.proofs.Idle.{run_sorted}
use Rattle.av_land.proofs.run_of_sorted_edits.Goals as goal

pub returns : goal.returns
returns c = run_sorted
