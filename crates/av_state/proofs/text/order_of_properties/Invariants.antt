use Rattle.std.proofs.Common.{◌≡◌, ◌≤◌, drop, length}
use Rattle.std.specs.Cmp.Lexicographic.{slice_cmp}
use Rattle.av_state.specs.Order.{property_cmp}
use Rattle.av_state.specs.Texts.{properties_told}
use Rattle.av_state.specs.Views.{properties_of}
use Rattle.av_state.proofs.text.order_of_properties.Given as goal

abbrev pub invariant-loop-index : goal.invariant-loop-index
invariant-loop-index l =
    (l.index ≤ length l.sought)
    × (slice_cmp property_cmp (properties_of (drop l.index l.stored)) (properties_told (drop l.index l.sought)) ≡ slice_cmp property_cmp (properties_of l.stored) (properties_told l.sought))
