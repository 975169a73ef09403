use Rattle.std.proofs.Common.{List, length}
use Rattle.av_types.specs.declared.position.SectionPos.{SectionPos}
use Rattle.av_cells.specs.Grid.{Grid}
use Rattle.av_world.specs.Views.{IsSameButBlocks}
use Rattle.av_inter.specs.Cut.{CanCut, AreCut, ArePartsOf}
use Rattle.av_inter.proofs.parcels.mend_all.Given as goal

abbrev pub invariant-loop-slot : goal.invariant-loop-slot
invariant-loop-slot l =
    record {
      parts : ArePartsOf l.world l.parcels.items;
      cut : (g : Grid) (secs : List (List SectionPos)) → CanCut g secs → AreCut g secs l.initial.world l.initial.parcels.items → AreCut g secs l.world l.parcels.items;
      same : IsSameButBlocks l.initial.world l.world;
    }

abbrev pub decreases-loop-slot : goal.decreases-loop-slot
decreases-loop-slot l = length l.parcels.items
