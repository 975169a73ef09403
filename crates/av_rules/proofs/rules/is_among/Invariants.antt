use Rattle.std.proofs.Common.{◌≡◌, drop}
use Rattle.std.specs.List.{list_any}
use Rattle.av_state.specs.States.{state_of}
use Rattle.av_rules.specs.Rows.{is_for}
use Rattle.av_rules.specs.Views.{table_rows_of}
use Rattle.av_rules.proofs.rules.is_among.Given as goal

abbrev pub invariant-loop-row : goal.invariant-loop-row
invariant-loop-row l = list_any (λ t. is_for t (state_of l.state)) (table_rows_of (drop l.row-index l.rows)) ≡ list_any (λ t. is_for t (state_of l.state)) (table_rows_of l.rows)
