use Rattle.std.proofs.Common.{◌≡◌, ℕ, ◌<◌, true, get_or}
use Rattle.av_types.specs.declared.position.ChunkPos.{ChunkPos}
use Rattle.av_land.specs.Land.{has_chunk}
use Rattle.av_world.specs.Views.{positions_of}
use Rattle.av_groups.specs.Open.{IsOpen, IsTouched, chunks_in}
use Rattle.av_groups.proofs.cutting.touch_all.Given as goal

abbrev pub invariant-loop-chunk : goal.invariant-loop-chunk
invariant-loop-chunk l =
    IsOpen (positions_of l.world) l.closed l.marks.last.items l.touches.items ×
    ((d : ChunkPos) → has_chunk (chunks_in l.fn.touches.items) d ≡ true → has_chunk (chunks_in l.touches.items) d ≡ true) ×
    ((k : ℕ) (d : ChunkPos) → k < l.chunk-index → IsTouched (positions_of l.world) l.fn.touches.items l.touches.items (get_or l.chunks k d))
