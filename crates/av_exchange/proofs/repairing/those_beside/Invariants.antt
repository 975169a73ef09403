use Rattle.std.proofs.Common.{◌++◌, map, string_bytes}
use Rattle.std.specs.List.{AllByRecursion}
use Rattle.av_exchange.specs.Names.{IsBeside}
use Rattle.av_exchange.specs.Outcomes.{AreAllBeside}
use Rattle.av_exchange.proofs.repairing.those_beside.Given as goal

-- those that were kept are beside; and of all names those that are beside were kept, or are still to come
abbrev pub invariant-loop-name : goal.invariant-loop-name
invariant-loop-name l = AllByRecursion IsBeside (map string_bytes l.beside.items)
    × AreAllBeside (map string_bytes l.fn.names.items) (map string_bytes l.beside.items ++ map string_bytes l.name-iterator.rest.items)
