-- The row of a table that a value of the program stands for.
use Rattle.std.specs.Prelude.{List, map}
use Rattle.av_state.specs.Views.{properties_of}
use Rattle.av_rules.specs.declared.row.TableRow.{TableRow as TableRowValue}
use Rattle.av_rules.specs.Rows.{TableRow}

abbrev pub table_row_of : TableRowValue → TableRow
table_row_of t = record { name = t.name.items; properties = properties_of t.properties.items; row = t.row }

abbrev pub table_rows_of : List TableRowValue → List TableRow
table_rows_of = map table_row_of
