use Rattle.av_files.proofs.Unique.{denote_one}
use Rattle.av_files.proofs.denote_one.Goals as goal

pub returns : goal.returns
returns c = denote_one
