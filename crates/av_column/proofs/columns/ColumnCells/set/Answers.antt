use Rattle.std.proofs.Common.{ap, ◌∙◌, slice_set}
use Rattle.av_column.specs.Columns.{world_of}
use Rattle.av_column.proofs.Writes.{world_set}
use Rattle.av_column.proofs.columns.ColumnCells.set.Goals as goal

pub returns-clause-changed : goal.returns-clause-changed
returns-clause-changed c =
    let s = c.args.self.now in
    ap (λ i. world_of s.bottom s.layers (slice_set s.numbers.items i c.args.number) s.waiting.items) c.slot-slot.ensures.value
    ∙ world_set s.bottom s.layers s.numbers.items s.waiting.items c.args.pos c.args.number s.numbered c.requires.loaded
