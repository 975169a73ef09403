use Rattle.std.proofs.Common.{All, take}
use Rattle.av_world.specs.Views.{IsWorldKept}
use Rattle.av_world.specs.Turned.{HasChunkRoom}
use Rattle.av_world.proofs.worlds.World.reserve_chunks.Given as goal

abbrev pub invariant-loop-at : goal.invariant-loop-at
invariant-loop-at l = record { kept : IsWorldKept l.fn.self l.self; done : All (HasChunkRoom l.self l.count) (take l.at-index l.at) }
