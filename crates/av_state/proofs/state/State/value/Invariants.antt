use Rattle.std.proofs.Common.{◌≡◌, drop}
use Rattle.av_state.specs.BlockState.{value_of}
use Rattle.av_state.specs.Views.{properties_of}
use Rattle.av_state.proofs.state.State.value.Given as goal

abbrev pub invariant-loop-property : goal.invariant-loop-property
invariant-loop-property l = value_of l.key (properties_of (drop l.property-index l.property-items)) ≡ value_of l.key (properties_of l.property-items)
