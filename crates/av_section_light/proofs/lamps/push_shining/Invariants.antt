use Rattle.std.proofs.Common.{◌≡◌, ◌<◌, ℕ, true, false, get_or}
use Rattle.std.specs.Prelude.{Contains}
use Rattle.av_types.specs.Positions.{block_at}
use Rattle.av_types.specs.declared.position.Pos.{Pos}
use Rattle.av_pack.specs.Packing.{packed_at}
use Rattle.av_section_light.proofs.lamps.push_shining.Given as goal

abbrev pub invariant-loop-place : goal.invariant-loop-place
invariant-loop-place l =
    record {
      kept : (p : Pos) → Contains l.initial.lamps.items p → Contains l.lamps.items p;
      lit : (i : ℕ) → i < l.place → get_or l.shining (packed_at l.bits l.longs i) false ≡ true → Contains l.lamps.items (block_at l.at i);
    }
