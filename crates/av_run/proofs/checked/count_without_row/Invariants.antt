use Rattle.std.proofs.Common.{◌≡◌, ◌≤◌, take}
use Rattle.av_state.specs.Table.{states}
use Rattle.av_rules.specs.Tables.{table_of}
use Rattle.av_answers.specs.Checked.{without_row}
use Rattle.av_run.proofs.checked.count_without_row.Given as goal

abbrev pub invariant-loop-number : goal.invariant-loop-number
invariant-loop-number l = (l.count ≡ without_row (table_of l.rules) (take l.number (states l.table))) × (l.count ≤ l.number)
