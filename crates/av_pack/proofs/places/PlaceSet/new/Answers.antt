-- Every bit of 0 is 0.
use Rattle.std.proofs.Common.{◌/◌, ◌%◌, ◌==◌, ap}
use Rattle.std.proofs.lemmas.Nat.Bits.{bit_at-zero}
use Rattle.av_pack.specs.Places.{has_place}
use Rattle.av_pack.proofs.PlaceBits.{get_or-replicate_zero}
use Rattle.av_pack.proofs.places.PlaceSet.new.Goals as goal

pub returns : goal.returns
unfolding has_place
returns c i = rw (get_or-replicate_zero 64 (i / 64)) (ap (λ n. n == 1) (bit_at-zero (i % 64)))
