use Rattle.std.proofs.Common.{◌≡◌, drop}
use Rattle.av_state.specs.States.{state_of}
use Rattle.av_state.specs.Views.{properties_of}
use Rattle.av_rules.specs.Rows.{has_properties}
use Rattle.av_rules.proofs.row.has_properties.Given as goal

abbrev pub invariant-loop-property : goal.invariant-loop-property
invariant-loop-property l = has_properties (state_of l.state).properties (properties_of (drop l.property-index l.properties)) ≡ has_properties (state_of l.state).properties (properties_of l.properties)
