use Rattle.std.proofs.Common.{◌≡◌, ℕ, ◌<◌, get_or}
use Rattle.av_types.specs.declared.position.Pos.{Pos}
use Rattle.av_flood.specs.Board.{raw_of}
use Rattle.av_flood.specs.Flooding.{todo_of, IsDark, IsNoted, IsGrown, WaitsIfEmitting}
use Rattle.av_flood.proofs.emit.emit_all.Given as goal

abbrev pub invariant-loop-lamp : goal.invariant-loop-lamp
invariant-loop-lamp g l =
    record {
      chunk : l.flood.chunk ≡ l.initial.flood.chunk;
      height : l.flood.height ≡ l.initial.flood.height;
      dark : IsDark l.flood;
      noted : IsNoted (g.B.Blocks.terrain l.blocks) l.flood.chunk (raw_of l.flood) (todo_of l.buckets);
      grown : IsGrown (g.B.Blocks.terrain l.blocks) l.initial.flood.chunk 16 (todo_of l.initial.buckets) (todo_of l.buckets);
      ready : (k : ℕ) (e : Pos) → k < l.lamp-index → WaitsIfEmitting (g.B.Blocks.terrain l.blocks) l.initial.flood.chunk (todo_of l.buckets) (get_or l.lamps k e);
    }
