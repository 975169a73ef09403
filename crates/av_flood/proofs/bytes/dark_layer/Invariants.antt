use Rattle.std.proofs.Common.{◌≡◌, ◌<◌, ◌*◌, ℕ, length, slice_index}
use Rattle.av_flood.specs.Offsets.{apart}
use Rattle.av_flood.proofs.bytes.dark_layer.Given as goal

abbrev pub invariant-loop-z : goal.invariant-loop-z
invariant-loop-z l =
    record {
      count : length l.layer ≡ 1936;
      bytes : (i : ℕ) → i < 44 * l.z → slice_index l.layer i ≡ apart i;
    }
