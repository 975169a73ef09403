use Rattle.std.proofs.Common.{ℕ, ◌<◌, length, get_or}
use Rattle.av_types.specs.declared.position.ChunkPos.{ChunkPos}
use Rattle.av_world.specs.Index.{slot}
use Rattle.av_world.specs.Views.{positions_of}
use Rattle.av_world_tests.proofs.lending.are_there.Given as goal

abbrev pub invariant-loop-at : goal.invariant-loop-at
invariant-loop-at l = (i : ℕ) (d : ChunkPos) → i < l.at-index → slot (positions_of l.world) (get_or l.chunks i d) < length (positions_of l.world)
