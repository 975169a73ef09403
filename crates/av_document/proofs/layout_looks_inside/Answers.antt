use Rattle.av_document.proofs.Inside.{layout_same}
use Rattle.av_document.proofs.layout_looks_inside.Goals as goal

pub returns : goal.returns
returns c = layout_same
