use Rattle.std.proofs.Common.{◌≡◌, drop}
use Rattle.std.specs.List.{list_all}
use Rattle.av_state.specs.BlockState.{is_short_property}
use Rattle.av_state.specs.Views.{properties_of}
use Rattle.av_state.proofs.state.are_short.Given as goal

abbrev pub invariant-loop-property : goal.invariant-loop-property
invariant-loop-property l = list_all is_short_property (properties_of (drop l.property-index l.properties)) ≡ list_all is_short_property (properties_of l.properties)
