-- The table that a `Rules` stands for.
use Rattle.av_rules.specs.declared.rules.Rules.{Rules}
use Rattle.av_rules.specs.Rows.{BlockTable}
use Rattle.av_rules.specs.Views.{table_rows_of}

abbrev pub table_of : Rules → BlockTable
table_of r = record { soaks = r.soaks; rows = table_rows_of r.rows.items; min_section = r.height.min_section; sections = r.height.sections }
