use Rattle.av_files.proofs.Continued.{run_continues}
use Rattle.av_files.proofs.run_continues.Goals as goal

pub returns : goal.returns
returns c = run_continues
