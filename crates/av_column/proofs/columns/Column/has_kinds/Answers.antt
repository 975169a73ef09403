use Rattle.av_column.proofs.Numbers.{below_is_kinds}
use Rattle.av_column.proofs.columns.Column.has_kinds.Goals as goal

pub returns : goal.returns
returns c = below_is_kinds _ _ _ c.args.self.now.waiting.items _ _ _ _ c.args.self.now.numbered c.as_slice.ensures.value c.count.ensures c.are_below.ensures
