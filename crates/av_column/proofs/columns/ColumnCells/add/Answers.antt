use Rattle.std.proofs.Common.{ap, ◌∙◌, slice_set, slice_index_or, false, true, ◌≡◌}
use Rattle.av_column.specs.Columns.{world_of, lists_of, slot}
use Rattle.av_column.proofs.Writes.{world_adds, not_pending, lists_more, read_false}
use Rattle.av_column.proofs.columns.ColumnCells.add.Goals as goal

pub returns-clause-changed : goal.returns-clause-changed
returns-clause-changed c =
    let s = c.args.self.now in
    let off : slice_index_or s.waiting.items (slot s.bottom c.args.entry.pos) false ≡ false = read_false _ _ _ _ c.index.ensures c.if-index.false c.slot-slot.ensures.value in
    ap (λ i. world_of s.bottom s.layers s.numbers.items (slice_set s.waiting.items i true)) c.slot-slot.ensures.value
    ∙ world_adds s.bottom s.layers s.numbers.items s.waiting.items c.args.entry s.waited c.requires.loaded off

pub returns-clause-lists : goal.returns-clause-lists
returns-clause-lists c =
    let s = c.args.self.now in
    let off : slice_index_or s.waiting.items (slot s.bottom c.args.entry.pos) false ≡ false = read_false _ _ _ _ c.index.ensures c.if-index.false c.slot-slot.ensures.value in
    ap lists_of c.push.ensures.items ∙ lists_more s.entries.items c.args.entry _ (not_pending s.bottom s.layers s.numbers.items s.waiting.items c.args.entry.pos c.requires.loaded off)
