use Rattle.std.proofs.Common.{◌≡◌, length}
use Rattle.av_rules.specs.Views.{table_rows_of}
use Rattle.av_rules.proofs.FirstRows.{AreFirstFrom}
use Rattle.av_rules.proofs.first_rows.first_rows.Given as goal

abbrev pub invariant-loop-index : goal.invariant-loop-index
invariant-loop-index l = record { long : l.count ≡ length l.heads.items; firsts : AreFirstFrom l.count (table_rows_of l.rows) l.index l.heads.items }
