use Rattle.std.proofs.Common.{◌≡◌, map, take}
use Rattle.av_state.specs.Table.{states}
use Rattle.av_rules.specs.Rows.{row_of, wet_in}
use Rattle.av_rules.specs.Tables.{table_of}
use Rattle.av_rules.proofs.kinds.Kinds.new.Given as goal

abbrev pub invariant-loop-number : goal.invariant-loop-number
invariant-loop-number l = (l.rows.items ≡ map (row_of (table_of l.rules)) (take l.number (states l.table))) × (l.wets.items ≡ map (wet_in (table_of l.rules)) (take l.number (states l.table)))
