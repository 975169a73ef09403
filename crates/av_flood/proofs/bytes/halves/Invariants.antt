use Rattle.std.proofs.Common.{◌≡◌, ◌<◌, ◌+◌, ◌-◌, ◌*◌, ◌/◌, ◌%◌, ℕ, length, slice_index}
use Rattle.av_flood.proofs.bytes.halves.Given as goal

abbrev pub invariant-loop-pair : goal.invariant-loop-pair
invariant-loop-pair l =
    record {
      count : length l.halves ≡ 128;
      low : (k : ℕ) → k < l.pair → slice_index l.halves k % 16 ≡ slice_index l.layer (2 * k) - 128;
      high : (k : ℕ) → k < l.pair → slice_index l.halves k / 16 ≡ slice_index l.layer (2 * k + 1) - 128;
    }
