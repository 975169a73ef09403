use Rattle.std.proofs.Common.{◌<◌, ◌≤◌, ℕ, get_or}
use Rattle.av_types.specs.declared.position.ChunkPos.{ChunkPos}
use Rattle.av_world.specs.Views.{room, positions_of, IsWorldKept}
use Rattle.av_world.proofs.worlds.World.reserve_counts.Given as goal

abbrev pub invariant-loop-index : goal.invariant-loop-index
invariant-loop-index l = record {
  kept : IsWorldKept l.fn.self l.self;
  done : (k : ℕ) (d : ChunkPos) → k < l.index → get_or l.counts k 0 ≤ room l.self (get_or (positions_of l.fn.self) k d);
}
