use Rattle.av_cells.specs.Kinds.{kinds_of}
use Rattle.av_drop.specs.Fronts.{AreSeen}
use Rattle.av_drop.proofs.Marks.{AreLeft}
use Rattle.av_drop.proofs.around.Around.read.Given as goal

abbrev pub invariant-loop-middle : goal.invariant-loop-middle
invariant-loop-middle g l =
    record {
      seen : AreSeen (kinds_of l.kinds) (g.C.Cells.world l.cells) l.middle l.self;
      left : AreLeft l.fn.squares l.self.known l.left;
    }

abbrev pub decreases-loop-middle : goal.decreases-loop-middle
decreases-loop-middle g l = l.left.bits
