use Rattle.std.proofs.Common.{map, take}
use Rattle.av_exchange.specs.Steps.{IfTold}
use Rattle.av_exchange.specs.Exchange.{AreStaged}
use Rattle.av_exchange.specs.Outcomes.{name_of}
use Rattle.av_exchange.proofs.marks.check_staged.Given as goal

abbrev pub invariant-loop-file : goal.invariant-loop-file
invariant-loop-file g l = IfTold (g.F.Folder.history l.folder) (AreStaged (map name_of (take l.file-index l.moves)))
