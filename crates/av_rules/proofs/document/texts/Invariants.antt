use Rattle.std.proofs.Common.{◌≡◌}
use Rattle.toml.specs.View.{members_view}
use Rattle.av_state.specs.Views.{properties_of}
use Rattle.av_rules.specs.Document.{texts_of}
use Rattle.av_rules.proofs.Fronts.{with_front}
use Rattle.av_rules.proofs.document.texts.Given as goal

abbrev pub invariant-loop-key : goal.invariant-loop-key
invariant-loop-key l = with_front (properties_of l.properties.items) (texts_of (members_view l.key-iterator)) ≡ texts_of (members_view l.table.entries)
