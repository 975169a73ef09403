use Rattle.std.proofs.Common.{◌≡◌, ◌-◌}
use Rattle.av_flood.specs.Board.{light_of, raw_of}
use Rattle.av_flood.specs.Flooding.{todo_of, IsMarked, IsFlooding}
use Rattle.av_flood.proofs.flood.fill.Given as goal

abbrev pub invariant-loop-step : goal.invariant-loop-step
invariant-loop-step g l =
    record {
      chunk : l.flood.chunk ≡ l.initial.flood.chunk;
      height : l.flood.height ≡ g.B.Blocks.tall l.blocks;
      marked : IsMarked (g.B.Blocks.terrain l.blocks) l.flood.chunk (15 - l.step) (raw_of l.flood) (todo_of l.buckets);
      flooding : IsFlooding (g.B.Blocks.terrain l.blocks) l.flood.chunk (15 - l.step) (light_of l.flood) (todo_of l.buckets);
    }
