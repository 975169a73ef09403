use Rattle.av_files.proofs.Once.{one_run}
use Rattle.av_files.proofs.one_run.Goals as goal

pub returns : goal.returns
returns c = one_run
