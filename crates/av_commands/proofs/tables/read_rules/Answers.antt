use Rattle.av_rules.specs.Tables.{table_of}
use Rattle.av_commands.specs.Tables.{none, read}
use Rattle.av_commands.proofs.tables.read_rules.Goals as goal

pub returns-in_default-clause-table : goal.returns-in_default-clause-table
returns-in_default-clause-table g c = rw c.in_default.is none

pub returns-in-Ok-clause-table : goal.returns-in-Ok-clause-table
returns-in-Ok-clause-table g c = rw c.in-Some.is (read c.in-Some.name.now c.as_slice.result.now (table_of c.in-Ok.rules) c.in-Ok.ensures.ok)
