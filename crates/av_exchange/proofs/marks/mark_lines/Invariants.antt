use Rattle.std.proofs.Common.{◌≡◌, length, map, take, string_bytes}
use Rattle.av_exchange.specs.Marks.{AreMarksOf}
use Rattle.av_exchange.proofs.marks.mark_lines.Given as goal

abbrev pub invariant-loop-name : goal.invariant-loop-name
invariant-loop-name g l = record {
  marked : AreMarksOf (g.F.Folder.mark_of l.folder) (g.F.Folder.history l.folder) (map string_bytes (take l.name-index l.names)) (map string_bytes l.marks.items);
  count : length l.marks.items ≡ l.name-index;
}
