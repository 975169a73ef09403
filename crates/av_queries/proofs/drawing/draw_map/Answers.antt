use Rattle.av_queries.proofs.drawing.draw_map.Goals as goal

pub returns : goal.returns
returns g c = record {
  height = c.in_ok-height.height;
  by_table = c.in_ok-height.ensures.height;
  named = _;
  by_colours = c.in_ok-colours.ensures;
  files = c.in_ok-files.files.items;
  drawn = rw c.view_by.ensures at c.in_ok-draw.ensures.ok;
}
