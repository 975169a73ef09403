use Rattle.av_types.specs.declared.water.Direction.TheVariants.{North, South, West, East}
use Rattle.av_cells.specs.Kinds.{kinds_of}
use Rattle.av_drop.proofs.Nearest.{down_is, by_sides}
use Rattle.av_drop.proofs.search.ways_down.Goals as goal

pub returns : goal.returns
returns g c =
    let k = kinds_of c.args.kinds.now in
    let w = g.C.Cells.world c.args.cells.now in
    record {
      at = by_sides _
          (down_is k w c.args.pos North c.args.ways.north c.is_way_down.result (c.requires.ways.at North) c.is_way_down.ensures)
          (down_is k w c.args.pos South c.args.ways.south c.is_way_down-2.result (c.requires.ways.at South) c.is_way_down-2.ensures)
          (down_is k w c.args.pos West c.args.ways.west c.is_way_down-3.result (c.requires.ways.at West) c.is_way_down-3.ensures)
          (down_is k w c.args.pos East c.args.ways.east c.is_way_down-4.result (c.requires.ways.at East) c.is_way_down-4.ensures);
    }
