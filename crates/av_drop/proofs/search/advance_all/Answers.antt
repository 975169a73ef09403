use Rattle.av_types.specs.declared.water.Direction.TheVariants.{North, South, West, East}
use Rattle.av_cells.specs.Positions.{step}
use Rattle.av_drop.proofs.Nearest.{by_sides}
use Rattle.av_drop.proofs.search.advance_all.Goals as goal

pub returns-clause-fronts : goal.returns-clause-fronts
returns-clause-fronts g c n few fronts =
    record {
      north_is = c.advance_side-north.ensures.front (step c.args.pos North) n few fronts.north_is;
      south_is = c.advance_side-south.ensures.front (step c.args.pos South) n few fronts.south_is;
      west_is = c.advance_side-west.ensures.front (step c.args.pos West) n few fronts.west_is;
      east_is = c.advance_side-east.ensures.front (step c.args.pos East) n few fronts.east_is;
    }

pub returns-clause-drops : goal.returns-clause-drops
returns-clause-drops g c n few fronts =
    record {
      at = by_sides _
          (c.advance_side-north.ensures.drops (step c.args.pos North) n few fronts.north_is)
          (c.advance_side-south.ensures.drops (step c.args.pos South) n few fronts.south_is)
          (c.advance_side-west.ensures.drops (step c.args.pos West) n few fronts.west_is)
          (c.advance_side-east.ensures.drops (step c.args.pos East) n few fronts.east_is);
    }
