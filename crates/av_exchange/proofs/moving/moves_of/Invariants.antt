use Rattle.std.proofs.Common.{◌≡◌, map, take, string_bytes}
use Rattle.av_exchange.specs.Outcomes.{name_of}
use Rattle.av_exchange.proofs.moving.moves_of.Given as goal

abbrev pub invariant-loop-index : goal.invariant-loop-index
invariant-loop-index l = map name_of l.moves.items ≡ map string_bytes (take l.index l.names)
