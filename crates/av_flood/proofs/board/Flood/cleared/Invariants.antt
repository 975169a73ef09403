use Rattle.std.proofs.Common.{◌≡◌, ◌*◌, ◌+◌, ◌<◌, ℕ, true, false, vec_len, get_or}
use Rattle.av_flood.specs.Quiet.{IsQuiet, IsFenced}
use Rattle.av_flood.proofs.board.Flood.cleared.Given as goal

abbrev pub invariant-loop-layer : goal.invariant-loop-layer
invariant-loop-layer l =
    record {
      long : vec_len l.light ≡ 30976 * l.height.sections + 3872;
      layers : vec_len l.touched ≡ 16 * l.height.sections;
      quiet : IsQuiet l.touched.items l.light.items;
      fenced : IsFenced (30976 * l.height.sections + 1936) l.light.items;
      done : (y : ℕ) → y < l.layer → get_or l.touched.items y true ≡ false;
    }
