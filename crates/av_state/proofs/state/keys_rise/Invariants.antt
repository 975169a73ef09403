use Rattle.std.proofs.Common.{◌≡◌, length}
use Rattle.av_state.specs.BlockState.{keys_rise}
use Rattle.av_state.specs.Views.{properties_of}
use Rattle.av_state.proofs.state.keys_rise.Given as goal

abbrev pub invariant-loop-first : goal.invariant-loop-first
invariant-loop-first l = keys_rise (properties_of l.rest) ≡ keys_rise (properties_of l.fn.properties)

abbrev pub decreases-loop-first : goal.decreases-loop-first
decreases-loop-first l = length l.rest
