use Rattle.std.proofs.Common.{◌≡◌, length}
use Rattle.av_flood.specs.Board.{light_of, raw_of}
use Rattle.av_flood.specs.Flooding.{todo_of, IsMarked, IsFlooding}
use Rattle.av_flood.proofs.flood.settle_level.Given as goal

abbrev pub invariant-loop-pos : goal.invariant-loop-pos
invariant-loop-pos g l =
    record {
      chunk : l.flood.chunk ≡ l.initial.flood.chunk;
      height : l.flood.height ≡ l.initial.flood.height;
      marked : IsMarked (g.B.Blocks.terrain l.blocks) l.flood.chunk l.level (raw_of l.flood) (todo_of l.buckets);
      flooding : IsFlooding (g.B.Blocks.terrain l.blocks) l.flood.chunk l.level (light_of l.flood) (todo_of l.buckets);
    }

abbrev pub decreases-loop-pos : goal.decreases-loop-pos
decreases-loop-pos g l = length (todo_of l.buckets l.level)
