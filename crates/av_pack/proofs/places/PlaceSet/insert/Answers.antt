-- The bit of the place is 1 now, and every other one is as it was.
use Rattle.std.proofs.Common.{◌<◌, ◌/◌, ◌%◌, eq-eqb, w64, length, true, arith, rules}
use Rattle.std.proofs.lemmas.Nat.Bits.{bit_at_set_same, bit_at_set_other}
use Rattle.av_pack.specs.Places.{has_place}
use Rattle.av_pack.proofs.PlaceBits.{bit_written}
use Rattle.av_pack.proofs.places.PlaceSet.insert.Goals as goal

pub returns : goal.returns
unfolding has_place
returns c =
    let place = c.args.place.index in
    let long : place / 64 < length c.args.self.now.words = search rules in
    let within : place % 64 < 64 = omega arith in
    rw c.word_of.ensures.value (record {
      places = bit_written c.args.self.now.words place _ true long
          (eq-eqb _ 1 (bit_at_set_same w64 _ (place % 64) within))
          (λ i h ne. bit_at_set_other w64 _ (place % 64) within i ne);
    })
