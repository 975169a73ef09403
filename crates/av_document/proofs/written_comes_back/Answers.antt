use Rattle.av_document.proofs.Rewritten.{written_comes_back}
use Rattle.av_document.proofs.written_comes_back.Goals as goal

pub returns : goal.returns
returns c = written_comes_back
