use Rattle.std.proofs.Common.{arith}
use Rattle.std.proofs.lemmas.Int.{ints}
use Rattle.av_types.specs.declared.position.Pos.{Pos}
use Rattle.av_cells.specs.Positions.{IsNearOrigin, IsInner}
use Rattle.av_water.proofs.coming.incoming.Goals as goal

inner : (p : Pos) → IsNearOrigin p → IsInner p
inner p h =
    record {
      x_low = omega (arith, ints, h.x_low);
      x_high = omega (arith, ints, h.x_high);
      y_low = omega (arith, ints, h.y_low);
      y_high = omega (arith, ints, h.y_high);
      z_low = omega (arith, ints, h.z_low);
      z_high = omega (arith, ints, h.z_high);
    }

pub above-requires : goal.above-requires
above-requires g c = inner c.args.pos (g.met.C.Cells.near c.args.cells.now c.args.pos c.requires.loaded)
