use Rattle.std.proofs.Common.{◌≡◌, ◌*◌, vec_len}
use Rattle.av_flood.specs.Board.{light_at, HasLightSoFar}
use Rattle.av_flood.proofs.board.Flood.half_bytes.Given as goal

abbrev pub invariant-loop-y : goal.invariant-loop-y
invariant-loop-y l =
    record {
      count : vec_len l.bytes ≡ 128 * l.y;
      halves : HasLightSoFar (light_at l.self) l.bytes.items;
    }
