use Rattle.std.proofs.Common.{◌≡◌, ◌<◌, ◌+◌, ℕ, get_or, length, drop}
use Rattle.av_world.specs.Appended.{entries_made}
use Rattle.av_world.specs.Appending.{count_at}
use Rattle.av_world.specs.Views.{positions_of}
use Rattle.av_world.proofs.worlds.World.count_made.Given as goal

abbrev pub invariant-loop-one : goal.invariant-loop-one
invariant-loop-one l = record {
  count : length l.counts.items ≡ length (positions_of l.self);
  each : (k : ℕ) → k < length (positions_of l.self) → get_or l.counts.items k 0 + count_at (positions_of l.self) k (entries_made (drop l.one-index l.made)) ≡ count_at (positions_of l.self) k (entries_made l.made);
}
