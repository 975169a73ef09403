use Rattle.std.proofs.Common.{◌≡◌, drop}
use Rattle.std.specs.List.{list_all}
use Rattle.av_state.specs.BlockState.{is_short_property}
use Rattle.av_state.specs.Texts.{properties_told}
use Rattle.av_state.proofs.text.are_short.Given as goal

abbrev pub invariant-loop-property : goal.invariant-loop-property
invariant-loop-property l = list_all is_short_property (properties_told (drop l.property-index l.properties)) ≡ list_all is_short_property (properties_told l.properties)
