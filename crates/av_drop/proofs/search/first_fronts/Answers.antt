use Rattle.av_types.specs.declared.water.Direction.TheVariants.{North, South, West, East}
use Rattle.av_drop.proofs.Nearest.{first_side}
use Rattle.av_drop.proofs.search.first_fronts.Goals as goal

pub returns : goal.returns
returns c k w p are =
    record {
      north_is = first_side k w p North c.args.ways.north c.first_front.result c.first_front.ensures (are.at North);
      south_is = first_side k w p South c.args.ways.south c.first_front-2.result c.first_front-2.ensures (are.at South);
      west_is = first_side k w p West c.args.ways.west c.first_front-3.result c.first_front-3.ensures (are.at West);
      east_is = first_side k w p East c.args.ways.east c.first_front-4.result c.first_front-4.ensures (are.at East);
    }
