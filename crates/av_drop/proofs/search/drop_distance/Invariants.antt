use Rattle.std.proofs.Common.{◌≡◌, ℕ, ◌+◌, ◌<◌, false}
use Rattle.av_cells.specs.Kinds.{kinds_of}
use Rattle.av_cells.specs.Positions.{step}
use Rattle.av_cells.specs.Rule.{can_drop}
use Rattle.av_drop.specs.Fronts.{AreSeen, IsFront}
use Rattle.av_drop.proofs.search.drop_distance.Given as goal

abbrev pub invariant-loop-steps : goal.invariant-loop-steps
invariant-loop-steps g l =
    record {
      seen : AreSeen (kinds_of l.kinds) (g.C.Cells.world l.cells) l.pos l.around;
      front : IsFront (kinds_of l.kinds) (g.C.Cells.world l.cells) l.pos (step l.pos l.fn.direction) l.steps l.front;
      none : (m : ℕ) → m < l.steps + 1 → can_drop (kinds_of l.kinds) (g.C.Cells.world l.cells) m (step l.pos l.fn.direction) ≡ false;
    }
