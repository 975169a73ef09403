use Rattle.std.proofs.Common.{◌+◌}
use Rattle.av_cells.specs.Kinds.{kinds_of}
use Rattle.av_drop.specs.Fronts.{AreSeen, AreFronts, HaveNone}
use Rattle.av_drop.proofs.search.nearest_by_walks.Given as goal

abbrev pub invariant-loop-steps : goal.invariant-loop-steps
invariant-loop-steps g l =
    record {
      seen : AreSeen (kinds_of l.kinds) (g.C.Cells.world l.cells) l.pos l.around;
      fronts : AreFronts (kinds_of l.kinds) (g.C.Cells.world l.cells) l.pos l.ways l.steps l.fronts.north l.fronts.south l.fronts.west l.fronts.east;
      none : HaveNone (kinds_of l.kinds) (g.C.Cells.world l.cells) l.pos l.ways (l.steps + 1);
    }
