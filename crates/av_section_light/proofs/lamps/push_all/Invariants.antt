use Rattle.std.proofs.Common.{◌<◌, ℕ}
use Rattle.std.specs.Prelude.{Contains}
use Rattle.av_types.specs.Positions.{block_at}
use Rattle.av_types.specs.declared.position.Pos.{Pos}
use Rattle.av_section_light.proofs.lamps.push_all.Given as goal

abbrev pub invariant-loop-index : goal.invariant-loop-index
invariant-loop-index l =
    record {
      kept : (p : Pos) → Contains l.initial.lamps.items p → Contains l.lamps.items p;
      all : (i : ℕ) → i < l.index → Contains l.lamps.items (block_at l.at i);
    }
