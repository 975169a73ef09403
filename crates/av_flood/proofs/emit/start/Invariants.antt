use Rattle.std.proofs.Common.{◌≡◌, ℕ, ◌<◌}
use Rattle.std.specs.Prelude.{Contains}
use Rattle.av_types.specs.declared.position.Pos.{Pos}
use Rattle.av_flood.specs.Board.{raw_of}
use Rattle.av_flood.specs.Blocks.{column_at}
use Rattle.av_flood.specs.Flooding.{todo_of, IsDark, IsNoted, IsGrown, WaitsIfEmitting}
use Rattle.av_flood.proofs.emit.start.Given as goal

abbrev pub invariant-loop-number : goal.invariant-loop-number
invariant-loop-number g l =
    record {
      chunk : l.flood.chunk ≡ l.initial.flood.chunk;
      height : l.flood.height ≡ l.initial.flood.height;
      dark : IsDark l.flood;
      noted : IsNoted (g.B.Blocks.terrain l.blocks) l.flood.chunk (raw_of l.flood) (todo_of l.buckets);
      grown : IsGrown (g.B.Blocks.terrain l.blocks) l.initial.flood.chunk 16 (todo_of l.initial.buckets) (todo_of l.buckets);
      ready : (k : ℕ) → k < l.number → (p : Pos) → Contains (g.B.Blocks.lamps l.blocks (column_at l.initial.flood.chunk k)) p → WaitsIfEmitting (g.B.Blocks.terrain l.blocks) l.initial.flood.chunk (todo_of l.buckets) p;
    }
