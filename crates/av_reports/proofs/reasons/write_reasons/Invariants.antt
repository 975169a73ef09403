use Rattle.std.proofs.Common.{map, take, string_bytes}
use Rattle.std.specs.Io.KnownBytes.{Appends}
use Rattle.av_reports.specs.Reasons.{reason_lines}
use Rattle.av_reports.proofs.reasons.write_reasons.Given as goal

abbrev pub invariant-loop-reason : goal.invariant-loop-reason
invariant-loop-reason g l = Appends (g.E.Write.contents l.fn.err) (g.E.Write.contents l.err) (reason_lines (map string_bytes (take l.reason-index l.reasons)))
