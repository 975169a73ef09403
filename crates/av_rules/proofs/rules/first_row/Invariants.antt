use Rattle.std.proofs.Common.{◌≡◌, drop}
use Rattle.av_state.specs.States.{state_of}
use Rattle.av_rules.specs.Rows.{first_row}
use Rattle.av_rules.specs.Views.{table_rows_of}
use Rattle.av_rules.proofs.rules.first_row.Given as goal

abbrev pub invariant-loop-table_row : goal.invariant-loop-table_row
invariant-loop-table_row l = first_row (table_rows_of (drop l.table_row-index l.rows)) (state_of l.state) ≡ first_row (table_rows_of l.rows) (state_of l.state)
