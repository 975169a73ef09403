use Rattle.av_files.proofs.SameLayout.{files_resume}
use Rattle.av_files.proofs.files_resume.Goals as goal

pub returns : goal.returns
returns c = files_resume
