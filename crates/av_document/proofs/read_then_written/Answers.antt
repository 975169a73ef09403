use Rattle.av_document.proofs.Rewritten.{read_then_written}
use Rattle.av_document.proofs.read_then_written.Goals as goal

pub returns : goal.returns
returns c = read_then_written
