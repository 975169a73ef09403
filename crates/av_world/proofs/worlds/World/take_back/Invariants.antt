use Rattle.std.proofs.Common.{◌≡◌, ◌++◌, length}
use Rattle.av_world.proofs.TakenChunks.{IsTakingBack}
use Rattle.av_world.proofs.worlds.World.take_back.Given as goal

abbrev pub invariant-loop-chunk : goal.invariant-loop-chunk
invariant-loop-chunk l =
    (goal.iterator-loop-chunk).can_next l.chunk-iterator ×
    (goal.iterator-loop-chunk).is_finite l.chunk-iterator ×
    (l.index ≡ length l.yielded) ×
    (l.fn.lent.chunks.items ≡ l.yielded ++ l.chunk-iterator.rest.items) ×
    IsTakingBack l.fn.self l.self l.fn.lent l.index
