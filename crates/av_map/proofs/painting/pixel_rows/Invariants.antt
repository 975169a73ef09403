use Rattle.std.proofs.Common.{◌≡◌, length, map}
use Rattle.std.specs.List.{All}
use Rattle.av_map.specs.Pixels.{pixel_rows}
use Rattle.av_map.specs.Rows.{patches_of}
use Rattle.av_map.proofs.painting.pixel_rows.Given as goal

abbrev pub invariant-loop-z : goal.invariant-loop-z
invariant-loop-z l = record {
  pixels : map (λ row. row.items) l.rows.items ≡ pixel_rows (patches_of l.patches) l.width l.z;
  count : length l.rows.items ≡ l.z;
  even : All (λ row. length row.items ≡ l.width) l.rows.items;
}
