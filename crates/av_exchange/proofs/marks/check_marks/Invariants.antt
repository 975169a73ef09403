use Rattle.std.proofs.Common.{map, string_bytes}
use Rattle.av_exchange.specs.Steps.{IfTold}
use Rattle.av_exchange.specs.Marks.{AreAsMarked}
use Rattle.av_exchange.proofs.marks.check_marks.Given as goal

abbrev pub invariant-loop-index : goal.invariant-loop-index
invariant-loop-index g l = IfTold (g.F.Folder.history l.folder) (λ h. AreAsMarked (g.F.Folder.mark_of l.folder) h
    (map string_bytes l.journal.names.items) (map string_bytes l.journal.marks.items) l.index)
