use Rattle.std.proofs.Common.{◌≡◌, drop}
use Rattle.av_state.specs.BlockState.{value_of}
use Rattle.av_state.specs.Texts.{properties_told}
use Rattle.av_state.proofs.text.value_in.Given as goal

abbrev pub invariant-loop-property : goal.invariant-loop-property
invariant-loop-property l = value_of l.key (properties_told (drop l.property-index l.properties)) ≡ value_of l.key (properties_told l.properties)
