use Rattle.std.proofs.Common.{◌≡◌, ℕ, ◌<◌, get_or, length}
use Rattle.av_world.specs.Index.{slot}
use Rattle.av_world.specs.Views.{positions_of}
use Rattle.av_light.specs.Columns.{column}
use Rattle.av_light.proofs.around.Around.new.Given as goal

abbrev pub invariant-loop-n : goal.invariant-loop-n
invariant-loop-n l = (length l.slots ≡ 9) × ((k : ℕ) → k < l.n → get_or l.slots k 0 ≡ slot (positions_of l.world) (column l.corner k))
