use Rattle.std.proofs.Common.{◌≡◌, ◌<◌, ◌+◌, ◌-◌, ◌*◌, ℕ, slice_index}
use Rattle.av_flood.specs.Board.{light_at}
use Rattle.av_flood.proofs.board.Flood.layer.Given as goal

abbrev pub invariant-loop-z : goal.invariant-loop-z
invariant-loop-z l =
    record {
      light : (j : ℕ) → j < 16 * l.z → slice_index l.bytes j - 128 ≡ light_at l.self (256 * l.y + j);
      dim : (j : ℕ) → j < 16 * l.z → slice_index l.bytes j < 144;
    }
