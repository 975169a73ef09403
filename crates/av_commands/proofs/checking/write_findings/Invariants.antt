use Rattle.std.proofs.Common.{take}
use Rattle.std.specs.Io.KnownBytes.{Appends}
use Rattle.av_commands.specs.CheckCommand.{finding_lines}
use Rattle.av_commands.proofs.checking.write_findings.Given as goal

abbrev pub invariant-loop-finding : goal.invariant-loop-finding
invariant-loop-finding g l = Appends (g.O.Write.contents l.fn.out) (g.O.Write.contents l.out) (finding_lines (take l.finding-index l.found))
