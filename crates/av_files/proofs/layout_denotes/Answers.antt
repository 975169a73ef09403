use Rattle.av_files.proofs.Layouts.{layout_is_denoted}
use Rattle.av_files.proofs.layout_denotes.Goals as goal

pub returns : goal.returns
returns c = layout_is_denoted
