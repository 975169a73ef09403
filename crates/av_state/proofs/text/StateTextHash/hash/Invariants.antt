use Rattle.std.proofs.Common.{◌≡◌, drop, fold}
use Rattle.av_state.specs.Hashing.{all_told_texts}
use Rattle.av_state.proofs.text.StateTextHash.hash.Given as goal

abbrev pub invariant-loop-property : goal.invariant-loop-property
invariant-loop-property g l = fold g.H.Hasher.write l.state (all_told_texts (drop l.property-index l.property-items)) ≡ fold g.H.Hasher.write l.initial.state (all_told_texts l.property-items)
