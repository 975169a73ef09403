use Rattle.av_land.proofs.Resumed.{run_resumes}
use Rattle.av_land.proofs.run_resumes.Goals as goal

pub returns : goal.returns
returns c = run_resumes
