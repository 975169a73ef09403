use Rattle.std.proofs.Common.{◌≡◌, ◌≤◌, ◌+◌, ◌-◌, ℕ, length, drop}
use Rattle.arrayvec.specs.ArrayVec.{array_vec_len}
use Rattle.av_types.specs.declared.position.Pos.{Pos}
use Rattle.av_rules.specs.Kinds.{kind_count}
use Rattle.av_cells.specs.Kinds.{kinds_of}
use Rattle.av_cells.specs.Rule.{HasKinds}
use Rattle.av_cells.specs.Turn.{change, woken_all}
use Rattle.av_cells.specs.Wakes.{Appends, HaveRoom, SameStates}
use Rattle.av_cells.proofs.awake.wake_all.Given as goal

abbrev pub invariant-loop-position : goal.invariant-loop-position
invariant-loop-position g l =
    record {
      kinds : HasKinds (kind_count l.kinds) (g.C.Cells.world l.cells);
      room : HaveRoom (g.C.Cells.world l.cells) (g.C.Cells.room l.cells) (length l.positions - l.position-index) (drop l.position-index l.positions);
      changed : woken_all (kinds_of l.kinds) l.now (drop l.position-index l.positions) (change (g.C.Cells.world l.cells) l.made.items)
          ≡ woken_all (kinds_of l.kinds) l.now l.positions (change (g.C.Cells.world l.initial.cells) l.initial.made.items);
      listed : Appends l.initial.made.items l.made.items (g.C.Cells.lists l.initial.cells) (g.C.Cells.lists l.cells);
      site : g.C.Cells.site l.cells ≡ g.C.Cells.site l.initial.cells;
      states : SameStates (g.C.Cells.world l.initial.cells) (g.C.Cells.world l.cells);
      length : array_vec_len l.made ≤ array_vec_len l.initial.made + l.position-index;
      kept : (q : Pos) → g.C.Cells.room l.initial.cells q ≤ g.C.Cells.room l.cells q + l.position-index;
      prepared : (q : Pos) (n : ℕ) → g.C.Cells.can_set l.initial.cells q n → g.C.Cells.can_set l.cells q n;
    }
