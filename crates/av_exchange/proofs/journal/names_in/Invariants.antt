use Rattle.std.proofs.Common.{map, string_bytes}
use Rattle.std.specs.List.{AllByRecursion}
use Rattle.av_exchange.specs.Names.{IsRegionName}
use Rattle.av_exchange.proofs.journal.names_in.Given as goal

abbrev pub invariant-loop-line : goal.invariant-loop-line
invariant-loop-line l = AllByRecursion IsRegionName (map string_bytes l.names.items)
