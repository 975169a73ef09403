use Rattle.av_headline.proofs.Three.{runs_resume}
use Rattle.av_headline.proofs.runs_resume.Goals as goal

pub returns : goal.returns
returns c = runs_resume
