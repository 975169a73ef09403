use Rattle.std.proofs.Common.{◌≡◌, ◌<◌, ◌+◌, ◌*◌, ℕ, slice_index}
use Rattle.av_flood.specs.Offsets.{apart}
use Rattle.av_flood.proofs.bytes.set_row.Given as goal

abbrev pub invariant-loop-x : goal.invariant-loop-x
invariant-loop-x l =
    record {
      here : (x : ℕ) → x < l.x → slice_index l.layer (44 * l.z + x) ≡ apart (44 * l.z + x);
      others : (i : ℕ) → i < 44 * l.z → slice_index l.layer i ≡ slice_index l.initial.layer i;
    }
