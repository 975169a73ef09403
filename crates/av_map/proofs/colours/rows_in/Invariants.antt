use Rattle.std.proofs.Common.{◌≡◌}
use Rattle.toml.specs.View.{members_view}
use Rattle.av_map.specs.Colours.{colours_in}
use Rattle.av_map.specs.Views.{all_named}
use Rattle.av_map.proofs.Fronts.{with_front}
use Rattle.av_map.proofs.colours.rows_in.Given as goal

abbrev pub invariant-loop-key : goal.invariant-loop-key
invariant-loop-key l = with_front (all_named l.rows.items) (colours_in (members_view l.key-iterator)) ≡ colours_in (members_view l.table.entries)
