use Rattle.std.proofs.Common.{◌≡◌, ◌++◌, map, take, string_bytes}
use Rattle.av_exchange.specs.Names.{lines_of}
use Rattle.av_exchange.proofs.journal.push_lines.Given as goal

abbrev pub invariant-loop-line : goal.invariant-loop-line
invariant-loop-line l = string_bytes l.text ≡ string_bytes l.fn.text ++ lines_of (map string_bytes (take l.line-index l.lines))
