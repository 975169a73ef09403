use Rattle.std.proofs.Common.{ap, sym, ◌∙◌, slice_set, false}
use Rattle.av_column.specs.Columns.{world_of}
use Rattle.av_column.proofs.Writes.{world_leaves, world_stays}
use Rattle.av_column.proofs.columns.Column.take_first.Goals as goal

pub returns-then-is_there-clause-leaves : goal.returns-then-is_there-clause-leaves
returns-then-is_there-clause-leaves c =
    let s = c.args.self.now in let e = c.remove-entry.result in
    ap (λ i. world_of s.bottom s.layers s.numbers.items (slice_set s.waiting.items i false)) c.slot-slot.ensures.value
    ∙ world_leaves s.bottom s.layers s.numbers.items s.waiting.items e s.waited (sym c.is_there.ensures ∙ c.if-is_there.true)

pub returns-else-is_there-clause-leaves : goal.returns-else-is_there-clause-leaves
returns-else-is_there-clause-leaves c =
    let s = c.args.self.now in
    world_stays s.bottom s.layers s.numbers.items s.waiting.items c.remove-entry.result (sym c.is_there.ensures ∙ c.if-is_there.false)
