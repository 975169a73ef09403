use Rattle.std.proofs.Common.{take}
use Rattle.std.specs.Io.KnownBytes.{Appends}
use Rattle.av_changes.specs.Changes.{change_lines}
use Rattle.av_changes.proofs.telling.write_changes.Given as goal

abbrev pub invariant-loop-change : goal.invariant-loop-change
invariant-loop-change g l = Appends (g.O.Write.contents l.fn.out) (g.O.Write.contents l.out) (change_lines l.verb (take l.change-index l.changes))
