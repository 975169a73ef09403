use Rattle.std.proofs.Common.{◌≡◌, drop}
use Rattle.av_state.specs.BlockState.{keys_rise}
use Rattle.av_state.specs.Texts.{properties_told}
use Rattle.av_state.proofs.text.keys_rise.Given as goal

abbrev pub invariant-loop-index : goal.invariant-loop-index
invariant-loop-index l = keys_rise (properties_told (drop l.index l.properties)) ≡ keys_rise (properties_told l.properties)
