use Rattle.av_files.proofs.FirstOnly.{one_first_fault}
use Rattle.av_files.proofs.one_first_fault.Goals as goal

pub returns : goal.returns
returns c = one_first_fault
