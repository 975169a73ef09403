-- The lowest bit of the word, shifted, is the bit of the place.
use Rattle.std.proofs.Common.{◌%◌, ◌==◌, ap}
use Rattle.std.proofs.lemmas.Nat.Bits.{shr_and_one}
use Rattle.av_pack.specs.Places.{has_place}
use Rattle.av_pack.proofs.places.PlaceSet.contains.Goals as goal

pub returns : goal.returns
unfolding has_place
returns c = rw c.word_of.ensures.value (ap (λ n. n == 1) (shr_and_one _ (c.args.place.index % 64)))
