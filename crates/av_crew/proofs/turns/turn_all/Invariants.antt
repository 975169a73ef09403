use Rattle.std.proofs.Common.{◌≡◌}
use Rattle.av_rules.specs.Kinds.{kind_count}
use Rattle.av_cells.specs.Kinds.{kinds_of}
use Rattle.av_cells.specs.Rule.{HasKinds}
use Rattle.av_crew.specs.Work.{AreTurned}
use Rattle.av_crew.proofs.turns.turn_all.Given as goal

abbrev pub invariant-loop-entry : goal.invariant-loop-entry
invariant-loop-entry g l =
    let world = g.C.Cells.world in
    let lists = g.C.Cells.lists in
    record {
      turned : AreTurned (kinds_of l.kinds) l.now l.entry-index l.entries (world l.fn.cells) (world l.cells) (lists l.fn.cells) (lists l.cells) l.made.items;
      kinds : HasKinds (kind_count l.kinds) (world l.cells);
      loaded : (world l.cells).loaded ≡ (world l.fn.cells).loaded;
    }
