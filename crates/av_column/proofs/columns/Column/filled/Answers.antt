use Rattle.std.proofs.Common.{replicate, ◌*◌, false}
use Rattle.av_column.proofs.Numbers.{filled_has_kinds}
use Rattle.av_column.proofs.columns.Column.filled.Goals as goal

pub returns-clause-kinds : goal.returns-clause-kinds
returns-clause-kinds c = λ k h.
    filled_has_kinds _ _ _ (replicate (256 * c.args.layers) false) c.args.number k (c.in_ok-vec.ensures.items_if_clones_equal (λ y e. e)) h

pub returns-clause-numbers : goal.returns-clause-numbers
returns-clause-numbers c = c.in_ok-vec.ensures.items_if_clones_equal (λ y e. e)

pub returns-clause-waiting : goal.returns-clause-waiting
returns-clause-waiting c = c.in_ok-vec-2.ensures.items_if_clones_equal (λ y e. e)
