use Rattle.std.proofs.Common.{◌≡◌, drop}
use Rattle.toml.specs.View.{items_view}
use Rattle.av_rules.specs.Views.{table_rows_of}
use Rattle.av_rules.specs.Document.{table_rows_in}
use Rattle.av_rules.proofs.Fronts.{with_front}
use Rattle.av_rules.proofs.document.table_rows_in.Given as goal

abbrev pub invariant-loop-value : goal.invariant-loop-value
invariant-loop-value l = with_front (table_rows_of l.rows.items) (table_rows_in l.version (items_view (drop l.value-index l.blocks.items))) ≡ table_rows_in l.version (items_view l.blocks.items)
