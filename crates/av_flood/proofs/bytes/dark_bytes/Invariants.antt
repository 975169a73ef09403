use Rattle.std.proofs.Common.{◌≡◌, ◌<◌, ◌+◌, ◌*◌, ◌%◌, ℕ, vec_len, slice_index_or}
use Rattle.av_flood.specs.Offsets.{apart}
use Rattle.av_flood.proofs.bytes.dark_bytes.Given as goal

abbrev pub invariant-loop-layer : goal.invariant-loop-layer
invariant-loop-layer l =
    record {
      long : vec_len l.light ≡ 1936 * l._layer + 1936;
      first : (i : ℕ) → i < 1936 → slice_index_or l.light.items i 64 ≡ 64;
      within : (i : ℕ) → i < 1936 * l._layer → slice_index_or l.light.items (1936 + i) 0 ≡ apart (i % 1936);
    }
