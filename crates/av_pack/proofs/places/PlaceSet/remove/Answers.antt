-- The bit of the place is 0 now, and every other one is as it was.
use Rattle.std.proofs.Common.{◌<◌, ◌/◌, ◌%◌, ◌==◌, ap, w64, length, false, arith, rules}
use Rattle.std.proofs.lemmas.Nat.Bits.{bit_at_clear_same, bit_at_clear_other}
use Rattle.av_pack.specs.Places.{has_place}
use Rattle.av_pack.proofs.PlaceBits.{bit_written}
use Rattle.av_pack.proofs.places.PlaceSet.remove.Goals as goal

pub returns : goal.returns
unfolding has_place
returns c =
    let place = c.args.place.index in
    let long : place / 64 < length c.args.self.now.words = search rules in
    let within : place % 64 < 64 = omega arith in
    rw c.word_of.ensures.value (record {
      places = bit_written c.args.self.now.words place _ false long
          (ap (λ n. n == 1) (bit_at_clear_same w64 _ (place % 64) within))
          (λ i h ne. bit_at_clear_other w64 _ (place % 64) within i h ne);
    })
