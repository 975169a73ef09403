use Rattle.std.proofs.Common.{◌≡◌, drop}
use Rattle.std.specs.Cmp.Lexicographic.{pointwise}
use Rattle.av_state.specs.StateList.{same_property}
use Rattle.av_state.specs.Texts.{properties_told}
use Rattle.av_state.specs.Views.{properties_of}
use Rattle.av_state.proofs.text.all_tell.Given as goal

abbrev pub invariant-loop-index : goal.invariant-loop-index
invariant-loop-index l = pointwise same_property (properties_told (drop l.index l.texts)) (properties_of (drop l.index l.properties)) ≡ pointwise same_property (properties_told l.texts) (properties_of l.properties)
