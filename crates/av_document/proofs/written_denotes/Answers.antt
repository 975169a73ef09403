use Rattle.av_document.proofs.Written.{written_is_denoted}
use Rattle.av_document.proofs.written_denotes.Goals as goal

pub returns : goal.returns
returns c = written_is_denoted
